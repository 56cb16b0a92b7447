use Rattle.std.proofs.Common.{sym}
use Rattle.cw_core.proofs.Nibbles.{limb_is}
use Rattle.cw_core.proofs.state_set.StateSet.limb.Goals as goal

pub returns : goal.returns
returns c = record { value = rw (← c.self.view_is) (sym (limb_is c.self.inside.limbs c.args.index c.self.invariant.0)) }
