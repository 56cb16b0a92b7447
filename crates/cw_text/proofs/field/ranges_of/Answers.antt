use Rattle.std.proofs.Common.{refl}
use Rattle.cw_text.proofs.FieldTexts.{no_spelling, another_spelling}
use Rattle.cw_text.proofs.field.ranges_of.Goals as goal

pub returns-in_err-set : goal.returns-in_err-set
returns-in_err-set c = rw c.from_residual.ensures (no_spelling c.args.field.now (c.in_err-set.ensures.none.0 refl))

pub returns-then-after-field : goal.returns-then-after-field
returns-then-after-field c = another_spelling c.args.field.now c.in_ok-set.set c.in_ok-set.after c.in_ok-set.ensures.some.0 c.in_ok-set.ensures.some.1 c.if-after-field.true
