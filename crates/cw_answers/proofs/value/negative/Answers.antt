use Rattle.cw_answers.proofs.Numbers.{size_zero}
use Rattle.cw_answers.proofs.value.negative.Goals as goal

pub returns-then-size-eq0 : goal.returns-then-size-eq0
returns-then-size-eq0 c = size_zero c.args.digits.now c.in_ok-size.size c.if-size-eq0.true c.in_ok-size.ensures.some.1
