-- No number above 1 is that of a mode.
use Rattle.cw_table_text.proofs.RowLines.{no_mode_taken}
use Rattle.cw_table_text.proofs.fields.take_mode.Goals as goal

pub returns-then-number-gt1 : goal.returns-then-number-gt1
returns-then-number-gt1 c = no_mode_taken c.in_ok-number.number c.args.fields.now c.take_u8.new.self c.in_ok-number.ensures.some.0 c.if-number-gt1.true c.in_ok-number.ensures.some.1
