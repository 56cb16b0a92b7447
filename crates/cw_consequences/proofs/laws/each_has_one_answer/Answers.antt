use Rattle.cw_consequences.proofs.Each.{one}
use Rattle.cw_consequences.proofs.laws.each_has_one_answer.Goals as goal

pub returns : goal.returns
returns c = one
