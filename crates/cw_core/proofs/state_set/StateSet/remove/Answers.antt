use Rattle.std.proofs.Common.{arith}
use Rattle.cw_core.proofs.Bits.{has-remove, without_bit-lt}
use Rattle.cw_core.proofs.Limbs.{AreSixteenLimbs-set}
use Rattle.cw_core.proofs.state_set.StateSet.remove.Goals as goal

pub invariant_of-self : goal.invariant_of-self
invariant_of-self c = AreSixteenLimbs-set c.self.inside.limbs _ _ c.self.invariant (without_bit-lt c.self.inside.limbs c.args.s.0 c.self.invariant.0)

pub returns : goal.returns
returns c = record { members = λ i. rw (← c.self.view_is) (has-remove c.self.inside.limbs c.args.s.0 c.self.invariant.0 (omega (arith, c.self.told)) i) }
