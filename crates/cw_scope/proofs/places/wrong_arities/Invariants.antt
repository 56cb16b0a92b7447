use Rattle.std.proofs.Common.{◌≡◌, map, drop}
use Rattle.cw_syntax.specs.Trees.{file_of}
use Rattle.cw_scope.specs.Rules.{wrong_arity}
use Rattle.cw_resolve.specs.Soonest.{sooner, soonest}
use Rattle.cw_scope.specs.Held.{tree_at}
use Rattle.cw_scope.proofs.places.wrong_arities.Given as goal

abbrev pub invariant-loop-e : goal.invariant-loop-e
invariant-loop-e l = sooner l.place (soonest (map (wrong_arity l.known.source.now (file_of l.known.program.now)) (map tree_at (drop l.e-index l.calls)))) ≡ soonest
    (map (wrong_arity l.known.source.now (file_of l.known.program.now)) (map tree_at l.calls))
