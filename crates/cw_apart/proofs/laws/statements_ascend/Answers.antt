use Rattle.cw_apart.proofs.Apart.{statements_ascend}
use Rattle.cw_apart.proofs.laws.statements_ascend.Goals as goal

pub returns : goal.returns
returns c = record { ascend = statements_ascend }
