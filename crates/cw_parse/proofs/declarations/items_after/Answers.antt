use Rattle.std.proofs.Common.{◌≡◌, true, false, sym, ◌∙◌}
use Rattle.std.proofs.lemmas.Result.{err_from_is_err_and}
use Rattle.cw_expressions.specs.Cursor.{begins}
use Rattle.cw_grammar.specs.declared.terminals.Terminal.TheVariants as w
use Rattle.cw_grammar.specs.Declarations.{IsItem}
use Rattle.cw_parse.specs.DeclarationReading.{item}
use Rattle.cw_parse.specs.DeclarationView.{items, specifiers_of}
use Rattle.cw_parse.proofs.DeclarationsSound.{Allowed, item_sound}
use Rattle.cw_parse.specs.Lists.{behind}
use Rattle.cw_parse.proofs.Listed.{many_ends, many_fails, many_further, not_longer, behind_shortens, more_shortens}
use Rattle.cw_parse.proofs.declarations.items_after.Goals as goal

pub returns-in_err-so_far : goal.returns-in_err-so_far
returns-in_err-so_far c =
    let p = err_from_is_err_and c.from_residual.result c.from_residual.ensures.1 in
    let go : begins w.Comma c.items.so_far.1.now ≡ true = sym c.begins_with.ensures.begins ∙ c.items-test.true in
    rw (p.1, p.2, ← c.items.invariant) (many_fails (behind (item (specifiers_of c.args.specifiers))) (begins w.Comma) c.in_err-so_far.field-0.0 (items c.items.so_far) go c.in_err-so_far.ensures)

pub items-smaller : goal.items-smaller
items-smaller c =
    let go : begins w.Comma c.items.so_far.1.now ≡ true = sym c.begins_with.ensures.begins ∙ c.items-test.true in
    more_shortens (behind (item (specifiers_of c.args.specifiers))) (begins w.Comma)
    (behind_shortens (item (specifiers_of c.args.specifiers)) (begins w.Comma) (λ z e. e)
    (not_longer (item (specifiers_of c.args.specifiers)) (IsItem Allowed (specifiers_of c.args.specifiers)) (item_sound (specifiers_of c.args.specifiers))))
    (items c.items.so_far) (items c.in_ok-so_far.so_far) go c.in_ok-so_far.ensures

pub items-preserved : goal.items-preserved
items-preserved c =
    let go : begins w.Comma c.items.so_far.1.now ≡ true = sym c.begins_with.ensures.begins ∙ c.items-test.true in
    many_further (behind (item (specifiers_of c.args.specifiers))) (begins w.Comma)
    (behind_shortens (item (specifiers_of c.args.specifiers)) (begins w.Comma) (λ z e. e)
    (not_longer (item (specifiers_of c.args.specifiers)) (IsItem Allowed (specifiers_of c.args.specifiers)) (item_sound (specifiers_of c.args.specifiers))))
    (items c.items.so_far) (items c.in_ok-so_far.so_far) go c.in_ok-so_far.ensures ∙ c.items.invariant

pub returns : goal.returns
returns c =
    let stop : begins w.Comma c.items.so_far.1.now ≡ false = sym c.begins_with.ensures.begins ∙ c.items-test.false in
    sym c.items.invariant ∙ many_ends (behind (item (specifiers_of c.args.specifiers))) (begins w.Comma) (items c.items.so_far) stop
