use Rattle.std.proofs.Common.{◌≡◌, true, sym, refl, ◌∙◌}
use Rattle.cw_parse.specs.StatementReading.{all_named, body}
use Rattle.cw_parse.proofs.Rows.{statements_map}
use Rattle.cw_parse.proofs.files.body_at.Goals as goal

pub returns-then-has_names : goal.returns-then-has_names
unfolding body
returns-then-has_names c =
    let named : all_named c.args.header.params.items ≡ true = rw c.as_slice.ensures.value at (sym c.has_names.ensures ∙ c.if-has_names.true) in
    rw (named, c.in_ok-brace.ensures.token, c.in_ok-body.ensures, c.in_ok-rest.ensures.token, statements_map c.in_ok-body.body.items) refl
