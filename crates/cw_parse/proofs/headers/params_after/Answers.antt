use Rattle.std.proofs.Common.{◌≡◌, true, false, sym, ◌∙◌}
use Rattle.std.proofs.lemmas.Result.{err_from_is_err_and}
use Rattle.cw_expressions.specs.Cursor.{begins}
use Rattle.cw_grammar.specs.declared.terminals.Terminal.TheVariants as w
use Rattle.cw_grammar.specs.Declarations.{IsParam}
use Rattle.cw_parse.specs.DeclarationReading.{param}
use Rattle.cw_parse.specs.DeclarationView.{parameters}
use Rattle.cw_parse.proofs.DeclarationsSound.{param_sound}
use Rattle.cw_parse.specs.Lists.{behind}
use Rattle.cw_parse.proofs.Listed.{many_ends, many_fails, many_further, not_longer, behind_shortens, more_shortens}
use Rattle.cw_parse.proofs.headers.params_after.Goals as goal

pub returns-in_err-so_far : goal.returns-in_err-so_far
returns-in_err-so_far c =
    let p = err_from_is_err_and c.from_residual.result c.from_residual.ensures.1 in
    let go : begins w.Comma c.params.so_far.1.now ≡ true = sym c.begins_with.ensures.begins ∙ c.params-test.true in
    rw (p.1, p.2, ← c.params.invariant) (many_fails (behind param) (begins w.Comma) c.in_err-so_far.field-0.0 (parameters c.params.so_far) go c.in_err-so_far.ensures)

pub params-smaller : goal.params-smaller
params-smaller c =
    let go : begins w.Comma c.params.so_far.1.now ≡ true = sym c.begins_with.ensures.begins ∙ c.params-test.true in
    more_shortens (behind param) (begins w.Comma) (behind_shortens param (begins w.Comma) (λ z e. e) (not_longer param IsParam param_sound)) (parameters c.params.so_far)
    (parameters c.in_ok-so_far.so_far) go c.in_ok-so_far.ensures

pub params-preserved : goal.params-preserved
params-preserved c =
    let go : begins w.Comma c.params.so_far.1.now ≡ true = sym c.begins_with.ensures.begins ∙ c.params-test.true in
    many_further (behind param) (begins w.Comma) (behind_shortens param (begins w.Comma) (λ z e. e) (not_longer param IsParam param_sound)) (parameters c.params.so_far)
    (parameters c.in_ok-so_far.so_far) go c.in_ok-so_far.ensures ∙ c.params.invariant

pub returns : goal.returns
returns c =
    let stop : begins w.Comma c.params.so_far.1.now ≡ false = sym c.begins_with.ensures.begins ∙ c.params-test.false in
    sym c.params.invariant ∙ many_ends (behind param) (begins w.Comma) (parameters c.params.so_far) stop
