use Rattle.cw_policy.proofs.Same.{one_fault}
use Rattle.cw_policy.proofs.laws.refused_texts_have_one_fault.Goals as goal

pub returns : goal.returns
returns c = one_fault
