use Rattle.std.proofs.Common.{◌∙◌, sym, ◌-◌, arith, Equal}
use Rattle.std.specs.Cmp.{nat_cmp_is}
use Rattle.cw_core.proofs.Limbs.{nat_cmp-number_of, same_number}
use Rattle.cw_core.proofs.state_set.StateSetOrd.cmp.Goals as goal

pub returns-then-self-i : goal.returns-then-self-i
returns-then-self-i c =
    rw (← c.self.view_is, ← c.other.view_is) (c.cmp.ensures
    ∙ nat_cmp-number_of c.self.inside.limbs c.other.inside.limbs (c.loop-i.i - 1) c.self.invariant.0 c.other.invariant.0 (c.self.told ∙ sym c.other.told) (λ k h. c.loop-i.invariant k (omega (arith, h))) c.if-self-i.true)

pub returns : goal.returns
returns c =
    rw (← c.self.view_is, ← c.other.view_is) (nat_cmp_is _ _ Equal (same_number c.self.inside.limbs c.other.inside.limbs (c.self.told ∙ sym c.other.told) (λ k _. c.loop-i.invariant k (omega arith))))
