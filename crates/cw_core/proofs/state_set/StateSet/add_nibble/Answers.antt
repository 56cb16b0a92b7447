use Rattle.std.proofs.Common.{arith}
use Rattle.cw_core.proofs.Nibbles.{with_nibble-lt, number_of-with_nibble}
use Rattle.cw_core.proofs.Limbs.{AreSixteenLimbs-set}
use Rattle.cw_core.proofs.state_set.StateSet.add_nibble.Goals as goal

pub invariant_of-self : goal.invariant_of-self
invariant_of-self c = AreSixteenLimbs-set c.self.inside.limbs _ _ c.self.invariant (with_nibble-lt c.self.inside.limbs c.args.index c.from.result c.self.invariant.0)

pub returns : goal.returns
returns c = record {
  sum = rw (← c.from.ensures, ← c.self.view_is) (number_of-with_nibble c.self.inside.limbs c.args.index c.from.result
      (omega (arith, c.self.told, c.requires.in_range)) (omega (arith, c.from.ensures, c.requires.digit)) (rw c.self.view_is c.requires.above));
}
