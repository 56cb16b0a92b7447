use Rattle.std.proofs.Common.{refl}
use Rattle.cw_answers.specs.AnswerLines.{Try}
use Rattle.cw_answers.proofs.Fields.{nothing_said, said, not_said}
use Rattle.cw_answers.proofs.lines.next_try.Goals as goal

pub returns-in_default-clause-none : goal.returns-in_default-clause-none
returns-in_default-clause-none c = λ by. nothing_said c.args.text.now c.in_default.ensures.none (Try by)

pub returns-in-None-clause-none : goal.returns-in-None-clause-none
returns-in-None-clause-none c = λ by more.
    not_said c.args.text.now c.in-Some.line.now c.in-Some.rest.now more c.of-fields.result (Try by) c.in-Some.ensures.parts c.in-Some.ensures.first c.of-fields.ensures.fields (c.in-None.ensures.none by)

pub returns-in-Some-take_try-clause-some : goal.returns-in-Some-take_try-clause-some
returns-in-Some-take_try-clause-some c =
    said c.args.text.now c.in-Some.line.now c.in-Some.rest.now c.of-fields.result (Try c.in-Some-take_try.by) (Try c.in-Some-take_try.by) c.in-Some.ensures.parts c.of-fields.ensures.fields
    c.in-Some-take_try.ensures.some.0 c.in-Some-take_try.ensures.some.1 refl
