use Rattle.std.proofs.Common.{ap, ℕ}
use Rattle.cw_core.specs.StateSet.{has}
use Rattle.cw_core.proofs.Sets.{same_from_members}
use Rattle.cw_core.proofs.state_set.StateSet.fact_same_members.Goals as goal

pub returns : goal.returns
returns c = record { same = (same_from_members c.args.self.now c.args.other.now, λ e s. ap (λ (n : ℕ). has n s) e) }
