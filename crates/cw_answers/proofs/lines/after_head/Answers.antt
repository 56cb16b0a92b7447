use Rattle.std.proofs.Common.{refl, sym, ◌∙◌}
use Rattle.std.specs.Prelude.{codes}
use Rattle.std.specs.Cmp.Lexicographic.{other_text}
use Rattle.cw_answers.specs.AnswerLines.{Head}
use Rattle.cw_answers.proofs.Fields.{nothing_said, not_text}
use Rattle.cw_answers.proofs.lines.after_head.Goals as goal

pub returns-in_default-clause-none : goal.returns-in_default-clause-none
returns-in_default-clause-none c = nothing_said c.args.text.now c.in_default.ensures.none Head

pub returns-else-eq-clause-none : goal.returns-else-eq-clause-none
returns-else-eq-clause-none c = λ more. not_text c.args.text.now c.in-Some.line.now c.in-Some.rest.now more (codes "capweave answers 1") Head c.in-Some.ensures.parts c.in-Some.ensures.first refl
    (λ is. other_text c.in-Some.line.now c.as_slice.result.now c.if-eq.ensures (is ∙ sym c.as_slice.ensures))
