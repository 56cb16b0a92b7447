use Rattle.cw_text.proofs.FieldTexts.{in_format_1, in_format_2}
use Rattle.cw_text.proofs.field.set_of.Goals as goal

pub returns-then-format-eq2 : goal.returns-then-format-eq2
returns-then-format-eq2 c = in_format_2 c.args.format c.args.field.now c.spelled_of.result c.if-format-eq2.true c.spelled_of.ensures

pub returns-else-format-eq2 : goal.returns-else-format-eq2
returns-else-format-eq2 c = in_format_1 c.args.format c.args.field.now c.mask_of.result c.if-format-eq2.false c.mask_of.ensures
