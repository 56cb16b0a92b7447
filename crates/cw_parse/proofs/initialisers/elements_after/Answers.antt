use Rattle.std.proofs.Common.{◌≡◌, true, false, sym, ◌∙◌}
use Rattle.std.proofs.lemmas.Result.{err_from_is_err_and}
use Rattle.cw_expressions.specs.Next.{next_expression}
use Rattle.cw_expressions.proofs.Whole.{next_sound}
use Rattle.cw_parse.specs.DeclarationReading.{more_elements}
use Rattle.cw_parse.specs.DeclarationView.{expressions}
use Rattle.cw_parse.proofs.DeclarationsSound.{Allowed, more_comma}
use Rattle.cw_parse.specs.Lists.{behind}
use Rattle.cw_parse.proofs.Listed.{many_ends, many_fails, many_further, not_longer, behind_shortens, more_shortens}
use Rattle.cw_parse.proofs.initialisers.elements_after.Goals as goal

pub returns-in_err-so_far : goal.returns-in_err-so_far
returns-in_err-so_far c =
    let p = err_from_is_err_and c.from_residual.result c.from_residual.ensures.1 in
    let go : more_elements c.elements.so_far.1.now ≡ true = sym c.has_more_elements.ensures ∙ c.elements-test.true in
    rw (p.1, p.2, ← c.elements.invariant) (many_fails (behind next_expression) (more_elements) c.in_err-so_far.field-0.0 (expressions c.elements.so_far) go c.in_err-so_far.ensures)

pub elements-smaller : goal.elements-smaller
elements-smaller c =
    let go : more_elements c.elements.so_far.1.now ≡ true = sym c.has_more_elements.ensures ∙ c.elements-test.true in
    more_shortens (behind next_expression) (more_elements) (behind_shortens next_expression more_elements more_comma (not_longer next_expression Allowed next_sound))
    (expressions c.elements.so_far) (expressions c.in_ok-so_far.so_far) go c.in_ok-so_far.ensures

pub elements-preserved : goal.elements-preserved
elements-preserved c =
    let go : more_elements c.elements.so_far.1.now ≡ true = sym c.has_more_elements.ensures ∙ c.elements-test.true in
    many_further (behind next_expression) (more_elements) (behind_shortens next_expression more_elements more_comma (not_longer next_expression Allowed next_sound))
    (expressions c.elements.so_far) (expressions c.in_ok-so_far.so_far) go c.in_ok-so_far.ensures ∙ c.elements.invariant

pub returns : goal.returns
returns c =
    let stop : more_elements c.elements.so_far.1.now ≡ false = sym c.has_more_elements.ensures ∙ c.elements-test.false in
    sym c.elements.invariant ∙ many_ends (behind next_expression) (more_elements) (expressions c.elements.so_far) stop
