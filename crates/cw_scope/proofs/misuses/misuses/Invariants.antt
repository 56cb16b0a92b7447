use Rattle.std.proofs.Common.{◌≡◌, map, drop}
use Rattle.cw_resolve.specs.Soonest.{sooner, soonest}
use Rattle.cw_scope.specs.Descriptors.{misuse}
use Rattle.cw_scope.specs.Held.{tree_at}
use Rattle.cw_scope.proofs.misuses.misuses.Given as goal

abbrev pub invariant-loop-e : goal.invariant-loop-e
invariant-loop-e l = sooner l.place (soonest (map (misuse l.scene) (map tree_at (drop l.e-index l.nodes)))) ≡ soonest
    (map (misuse l.scene) (map tree_at l.nodes))
