use Rattle.cw_policy.proofs.Same.{one_policy}
use Rattle.cw_policy.proofs.laws.text_spells_one_policy.Goals as goal

pub returns : goal.returns
returns c = one_policy
