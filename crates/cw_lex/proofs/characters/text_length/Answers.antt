use Rattle.std.proofs.Common.{◌∙◌, sym}
use Rattle.std.proofs.lemmas.Bool.{eq-eqb, ne_eqb}
use Rattle.cw_lex.proofs.Texts.{text_step, text_here, text_bad, text_none}
use Rattle.cw_lex.proofs.characters.text_length.Goals as goal

pub returns-then-bytes-at-eq34-clause-value : goal.returns-then-bytes-at-eq34-clause-value
returns-then-bytes-at-eq34-clause-value c = sym (text_here c.args.bytes.now c.items.at c.items-test.true (eq-eqb _ _ c.if-bytes-at-eq34.true)) ∙ c.items.invariant.so_far

pub returns-in_err-length-clause-value : goal.returns-in_err-length-clause-value
returns-in_err-length-clause-value c = c.from_residual.ensures
    ∙ sym (text_bad c.args.bytes.now c.items.at c.items-test.true (ne_eqb _ _ c.if-bytes-at-eq34.false) (sym c.in_err-length.ensures.value)) ∙ c.items.invariant.so_far

pub items-preserved : goal.items-preserved
items-preserved c =
    let some = c.in_ok-length.ensures.within.0 in
    let le = c.in_ok-length.ensures.within.1 in
    record {
      so_far = text_step c.args.bytes.now c.items.at (c.in_ok-length.field-0-0, c.in_ok-length.length) c.items-test.true (ne_eqb _ _ c.if-bytes-at-eq34.false)
          (sym c.in_ok-length.ensures.value) some le ∙ c.items.invariant.so_far;
      within = le;
    }

pub returns-clause-value : goal.returns-clause-value
returns-clause-value c = sym (text_none c.args.bytes.now c.items.at c.items-test.false) ∙ c.items.invariant.so_far
