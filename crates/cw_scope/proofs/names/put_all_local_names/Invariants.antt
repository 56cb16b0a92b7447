use Rattle.std.proofs.Common.{◌≡◌, ◌++◌, map, drop}
use Rattle.std.specs.List.{flat_map}
use Rattle.cw_scope.specs.Names.{local_names}
use Rattle.cw_scope.specs.Held.{nested_of}
use Rattle.cw_scope.proofs.names.put_all_local_names.Given as goal

abbrev pub invariant-loop-nested : goal.invariant-loop-nested
invariant-loop-nested l = l.out.items ++ flat_map (λ p. local_names p.statement) (map nested_of (drop l.nested-index l.statements)) ≡ l.initial.out.items ++ flat_map
    (λ p. local_names p.statement) (map nested_of l.statements)
