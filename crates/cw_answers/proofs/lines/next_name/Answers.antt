use Rattle.std.proofs.Common.{ap}
use Rattle.cw_answers.specs.AnswerLines.{Name}
use Rattle.cw_answers.proofs.Fields.{nothing_said, said, not_said, stored}
use Rattle.cw_answers.proofs.lines.next_name.Goals as goal

pub returns-in_default-clause-none : goal.returns-in_default-clause-none
returns-in_default-clause-none c = λ name value. nothing_said c.args.text.now c.in_default.ensures.none (Name name value)

pub returns-in-None-clause-none : goal.returns-in-None-clause-none
returns-in-None-clause-none c = λ name value more.
    not_said c.args.text.now c.in-Some.line.now c.in-Some.rest.now more c.of-fields.result (Name name value) c.in-Some.ensures.parts c.in-Some.ensures.first c.of-fields.ensures.fields
    (c.in-None.ensures.none name value)

pub returns-in-Some-take_name-clause-some : goal.returns-in-Some-take_name-clause-some
returns-in-Some-take_name-clause-some c =
    said c.args.text.now c.in-Some.line.now c.in-Some.rest.now c.of-fields.result (Name c.in-Some-take_name.name.now c.in-Some-take_name.value) _ c.in-Some.ensures.parts c.of-fields.ensures.fields
    c.in-Some-take_name.ensures.some.0 c.in-Some-take_name.ensures.some.1
    (ap (λ z. Name c.in-Some-take_name.name.now z) (stored c.in-Some-take_name.value c.in-Some-take_name.ensures.some.0.1))
