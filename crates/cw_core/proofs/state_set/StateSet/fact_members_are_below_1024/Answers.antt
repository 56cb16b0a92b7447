use Rattle.std.proofs.Common.{arith}
use Rattle.cw_core.proofs.Bits.{has_past}
use Rattle.cw_core.proofs.state_set.StateSet.fact_members_are_below_1024.Goals as goal

pub returns : goal.returns
returns c = record { below = rw (← c.self.view_is) (λ s h. let p = has_past c.self.inside.limbs s c.self.invariant.0 h in omega (arith, p, c.self.told)) }
