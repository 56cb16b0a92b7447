use Rattle.cw_policy.proofs.Kept.{is_valid}
use Rattle.cw_policy.proofs.laws.spelled_policies_are_valid.Goals as goal

pub returns : goal.returns
returns c = is_valid
