use Rattle.cw_expressions.proofs.Whole.{one_next}
use Rattle.cw_expressions.proofs.expressions.fact_one_expression.Goals as goal

pub returns : goal.returns
returns c = record { one = one_next }
