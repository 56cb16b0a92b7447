use Rattle.std.proofs.Common.{arith, inl, inr, refl}
use Rattle.cw_text.proofs.FieldTexts.{no_number, another_number}
use Rattle.cw_text.proofs.field.number_of.Goals as goal
use Rattle.cw_text.proofs.field.number_of.Goals.{then-after-field-via-then-after-field, then-after-field-via-else-after-field+then-number-most}

pub returns-in_err-number : goal.returns-in_err-number
returns-in_err-number c = rw c.from_residual.ensures (no_number c.args.field.now c.args.most (omega arith) (c.in_err-number.ensures.none.0 refl))

pub returns-then-after-field : goal.returns-then-after-field
returns-then-after-field c = another_number c.args.field.now c.args.most c.in_ok-number.number c.in_ok-number.after (omega arith) c.in_ok-number.ensures.some.0 c.in_ok-number.ensures.some.1
    (elim c.then-after-field.branch [ then-after-field-via-then-after-field w ↦ inl w.if-after-field.true | then-after-field-via-else-after-field+then-number-most w ↦ inr w.if-number-most.true ])
