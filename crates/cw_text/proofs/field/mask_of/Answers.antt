use Rattle.std.proofs.Common.{◌∙◌, sym, refl, inl, inr}
use Rattle.std.proofs.lemmas.Bool.{false≢true}
use Rattle.cw_text.proofs.FieldTexts.{no_mask, another_mask}
use Rattle.cw_text.proofs.field.mask_of.Goals as goal
use Rattle.cw_text.proofs.field.mask_of.Goals.{then-after-field-via-then-after-field, then-after-field-via-else-after-field+then-not-is_below_512}

pub returns-in_err-set : goal.returns-in_err-set
returns-in_err-set c = rw c.from_residual.ensures (no_mask c.args.field.now (c.in_err-set.ensures.none.0 refl))

pub returns-then-after-field : goal.returns-then-after-field
returns-then-after-field c = another_mask c.args.field.now c.in_ok-set.set c.in_ok-set.after c.in_ok-set.ensures.some.0 c.in_ok-set.ensures.some.1
    (elim c.then-after-field.branch [
      | then-after-field-via-then-after-field w ↦ inl w.if-after-field.true
      | then-after-field-via-else-after-field+then-not-is_below_512 w ↦ inr (λ below. false≢true (sym w.if-not-is_below_512.true ∙ w.is_below_512.ensures.1 below))
    ])
