use Rattle.std.proofs.Common.{◌∙◌, sym}
use Rattle.cw_core.proofs.Limbs.{pointwise-number_of}
use Rattle.cw_core.proofs.state_set.StateSetPartialEq.eq.Goals as goal

pub returns : goal.returns
returns c = rw (← c.self.view_is, ← c.other.view_is) (c.eq.ensures ∙ pointwise-number_of c.self.inside.limbs c.other.inside.limbs c.self.invariant.0 c.other.invariant.0 (c.self.told ∙ sym c.other.told))
