use Rattle.std.proofs.Common.{◌≡◌, true, false, length, sym, ◌∙◌}
use Rattle.std.proofs.lemmas.Result.{err_from_is_err_and}
use Rattle.cw_expressions.proofs.Repeat.{repeat_ends, repeat_fails, repeat_further}
use Rattle.cw_parse.specs.Lists.{rest_after}
use Rattle.cw_parse.specs.StatementReading.{some_left, one_part, parts}
use Rattle.cw_parse.specs.StatementView.{filed}
use Rattle.cw_parse.proofs.FilesSound.{parts_shorten}
use Rattle.cw_parse.proofs.files.parts_after.Goals as goal

pub returns-in_err-so_far : goal.returns-in_err-so_far
unfolding parts
returns-in_err-so_far c =
    let p = err_from_is_err_and c.from_residual.result c.from_residual.ensures.1 in
    let go : some_left c.parts.so_far.1.now ≡ true = sym c.has_more.ensures ∙ c.parts-test.true in
    rw (p.1, p.2, ← c.parts.invariant) (repeat_fails rest_after some_left one_part c.in_err-so_far.field-0.0 (length c.parts.so_far.1.now) (filed c.parts.so_far) go c.in_err-so_far.ensures)

pub parts-smaller : goal.parts-smaller
parts-smaller c =
    let go : some_left c.parts.so_far.1.now ≡ true = sym c.has_more.ensures ∙ c.parts-test.true in
    parts_shorten (filed c.parts.so_far) (filed c.in_ok-so_far.so_far) go c.in_ok-so_far.ensures

pub parts-preserved : goal.parts-preserved
unfolding parts
parts-preserved c =
    let go : some_left c.parts.so_far.1.now ≡ true = sym c.has_more.ensures ∙ c.parts-test.true in
    repeat_further rest_after some_left one_part parts_shorten (filed c.parts.so_far) (filed c.in_ok-so_far.so_far) go c.in_ok-so_far.ensures ∙ c.parts.invariant

pub returns : goal.returns
unfolding parts
returns c =
    let stop : some_left c.parts.so_far.1.now ≡ false = sym c.has_more.ensures ∙ c.parts-test.false in
    sym c.parts.invariant ∙ repeat_ends rest_after some_left one_part (length c.parts.so_far.1.now) (filed c.parts.so_far) stop
