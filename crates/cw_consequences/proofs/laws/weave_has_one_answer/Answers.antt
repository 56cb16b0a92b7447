use Rattle.cw_consequences.proofs.Readings.{one_answer}
use Rattle.cw_consequences.proofs.laws.weave_has_one_answer.Goals as goal

pub returns : goal.returns
returns c = one_answer
