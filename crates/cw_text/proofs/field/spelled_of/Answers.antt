use Rattle.cw_text.proofs.FieldTexts.{the_empty_set}
use Rattle.cw_text.proofs.field.spelled_of.Goals as goal

pub returns-then-is_no_member : goal.returns-then-is_no_member
returns-then-is_no_member c = rw (c.is_no_member.ensures.0 c.if-is_no_member.true, c.empty.ensures.zero) the_empty_set
