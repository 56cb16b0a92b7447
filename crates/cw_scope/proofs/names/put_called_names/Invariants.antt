use Rattle.std.proofs.Common.{◌≡◌, ◌++◌, map, drop}
use Rattle.std.specs.List.{filter_map}
use Rattle.cw_scope.specs.Names.{called_name}
use Rattle.cw_scope.specs.Held.{tree_at}
use Rattle.cw_scope.proofs.names.put_called_names.Given as goal

abbrev pub invariant-loop-e : goal.invariant-loop-e
invariant-loop-e l = l.out.items ++ filter_map called_name (map tree_at (drop l.e-index l.calls)) ≡ l.initial.out.items ++ filter_map called_name (map tree_at l.calls)
