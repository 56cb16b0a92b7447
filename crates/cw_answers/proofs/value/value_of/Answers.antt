use Rattle.cw_answers.proofs.Numbers.{no_bytes, with_sign}
use Rattle.cw_answers.proofs.value.value_of.Goals as goal

pub returns-in_default : goal.returns-in_default
returns-in_default c = no_bytes c.args.field.now c.in_default.ensures.cases

pub returns-then-first-eq45 : goal.returns-then-first-eq45
returns-then-first-eq45 c = with_sign c.args.field.now c.in-Some.digits.now c.in-Some.first.now c.negative.result c.in-Some.ensures.cases.0 c.if-first-eq45.true c.negative.ensures
