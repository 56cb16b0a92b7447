use Rattle.std.proofs.Common.{sym, ap, ◌∙◌}
use Rattle.std.specs.Cmp.Lexicographic.{slice_cmp}
use Rattle.std.specs.Ordering.{nat_cmp, is_lt}
use Rattle.cw_answers.specs.Reading.{is_behind}
use Rattle.cw_answers.proofs.Behind.{last_is}
use Rattle.cw_answers.proofs.reading.stands_behind.Goals as goal

pub returns-in-Some : goal.returns-in-Some
returns-in-Some c =
    c.is_lt.ensures
    ∙ ap is_lt (c.cmp.ensures ∙ ap (λ last. slice_cmp nat_cmp last c.args.name.now) c.as_slice.ensures.value)
    ∙ sym (ap (λ last. is_behind last c.args.name.now) (last_is c.args.names.now c.in-Some.field-0.now (sym c.in-Some.ensures.value)))
