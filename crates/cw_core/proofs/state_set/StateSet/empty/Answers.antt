use Rattle.std.proofs.Common.{refl}
use Rattle.cw_core.specs.Limbs.{number_of}
use Rattle.cw_core.proofs.Sets.{has-zero}
use Rattle.cw_core.proofs.state_set.StateSet.empty.Goals as goal

pub returns-clause-zero : goal.returns-clause-zero
unfolding number_of
returns-clause-zero c = refl

pub returns-clause-members : goal.returns-clause-members
unfolding number_of
returns-clause-members c = has-zero
