use Rattle.std.proofs.Common.{◌≡◌, map, drop}
use Rattle.cw_scope.specs.Rules.{loose_jump}
use Rattle.cw_resolve.specs.Soonest.{sooner, soonest}
use Rattle.cw_scope.specs.Held.{nested_of}
use Rattle.cw_scope.proofs.places.loose_jumps.Given as goal

abbrev pub invariant-loop-nested : goal.invariant-loop-nested
invariant-loop-nested l = sooner l.place (soonest (map (λ p. loose_jump p.looped p.statement) (map nested_of (drop l.nested-index l.statements)))) ≡ soonest
    (map (λ p. loose_jump p.looped p.statement) (map nested_of l.statements))
