use Rattle.std.proofs.Common.{◌≡◌, map, drop}
use Rattle.cw_scope.specs.Rules.{main_call}
use Rattle.cw_resolve.specs.Soonest.{sooner, soonest}
use Rattle.cw_scope.specs.Held.{tree_at}
use Rattle.cw_scope.proofs.places.main_calls.Given as goal

abbrev pub invariant-loop-e : goal.invariant-loop-e
invariant-loop-e l = sooner l.place (soonest (map (main_call l.source) (map tree_at (drop l.e-index l.calls)))) ≡ soonest (map (main_call l.source) (map tree_at l.calls))
