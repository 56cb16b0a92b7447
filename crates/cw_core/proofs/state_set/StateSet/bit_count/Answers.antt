use Rattle.std.proofs.Common.{◌-◌, arith, refl}
use Rattle.cw_core.proofs.Digits.{first_bit}
use Rattle.cw_core.proofs.Limbs.{all_zero, below_top}
use Rattle.cw_core.proofs.state_set.StateSet.bit_count.Goals as goal

pub returns-then-limb-ne0-clause-above : goal.returns-then-limb-ne0-clause-above
returns-then-limb-ne0-clause-above c =
    rw (← c.self.view_is) (below_top c.self.inside.limbs (c.loop-i.i - 1) _ _ c.self.invariant.0 (λ k h. c.loop-i.invariant k (omega (arith, h))) refl refl)

pub returns-then-limb-ne0-clause-first : goal.returns-then-limb-ne0-clause-first
returns-then-limb-ne0-clause-first c = λ _.
    rw (← c.self.view_is) (first_bit c.self.inside.limbs (c.loop-i.i - 1) _ _ c.self.invariant.0 c.if-limb-ne0.true refl refl)

pub returns-clause-above : goal.returns-clause-above
returns-clause-above c =
    let none = all_zero c.self.inside.limbs (λ k _. c.loop-i.invariant k (omega arith)) in
    rw (← c.self.view_is, none) (omega arith)
