use Rattle.std.proofs.Common.{◌≡◌, true, refl, sym, ◌∙◌}
use Rattle.cw_grammar.specs.declared.terminals.Terminal.TheVariants as w
use Rattle.cw_grammar.proofs.TreeRows.{trees_map}
use Rattle.cw_expressions.specs.Cursor.{begins}
use Rattle.cw_parse.specs.DeclarationReading.{value}
use Rattle.cw_parse.proofs.initialisers.value_at.Goals as goal

pub returns-then-begins_with : goal.returns-then-begins_with
unfolding value
returns-then-begins_with c =
    let open_next : begins w.OpenBrace c.args.tokens.now ≡ true = sym c.begins_with.ensures.begins ∙ c.if-begins_with.true in
    rw (trees_map c.in_ok-list.list.items, open_next, ← c.past.ensures.after, c.in_ok-list.ensures, c.in_ok-rest.ensures.token) refl
