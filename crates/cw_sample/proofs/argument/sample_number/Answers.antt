use Rattle.cw_sample.proofs.Numbers.{a_number, no_number, zero_alone}
use Rattle.cw_sample.proofs.argument.sample_number.Goals as goal

pub returns-in-None-clause-number : goal.returns-in-None-clause-number
returns-in-None-clause-number c = no_number c.args.argument.now c.in-None.ensures.none

pub returns-then-number-eq0-clause-number : goal.returns-then-number-eq0-clause-number
returns-then-number-eq0-clause-number c =
    zero_alone c.args.argument.now c.in-Some.number c.in-Some.ensures.some.0 c.in-Some.ensures.some.1 c.if-number-eq0.true

pub returns-else-number-eq0-clause-number : goal.returns-else-number-eq0-clause-number
returns-else-number-eq0-clause-number c =
    a_number c.args.argument.now c.in-Some.number c.in-Some.ensures.some.0 c.in-Some.ensures.some.1 c.if-number-eq0.false
