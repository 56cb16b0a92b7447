use Rattle.std.proofs.Common.{ap}
use Rattle.cw_answers.specs.AnswerLines.{Call}
use Rattle.cw_answers.proofs.Fields.{nothing_said, said, not_said, stored}
use Rattle.cw_answers.proofs.lines.next_call.Goals as goal

pub returns-in_default-clause-none : goal.returns-in_default-clause-none
returns-in_default-clause-none c = λ value. nothing_said c.args.text.now c.in_default.ensures.none (Call value)

pub returns-in-None-clause-none : goal.returns-in-None-clause-none
returns-in-None-clause-none c = λ value more.
    not_said c.args.text.now c.in-Some.line.now c.in-Some.rest.now more c.of-fields.result (Call value) c.in-Some.ensures.parts c.in-Some.ensures.first c.of-fields.ensures.fields (c.in-None.ensures.none value)

pub returns-in-Some-take_call-clause-some : goal.returns-in-Some-take_call-clause-some
returns-in-Some-take_call-clause-some c =
    said c.args.text.now c.in-Some.line.now c.in-Some.rest.now c.of-fields.result (Call c.in-Some-take_call.value) _ c.in-Some.ensures.parts c.of-fields.ensures.fields c.in-Some-take_call.ensures.some.0
    c.in-Some-take_call.ensures.some.1 (ap Call (stored c.in-Some-take_call.value c.in-Some-take_call.ensures.some.0))
