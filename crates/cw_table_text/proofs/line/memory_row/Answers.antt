-- Fields that no memory spells are those of no row with its name.
use Rattle.cw_table_text.proofs.RowLines.{no_memory}
use Rattle.cw_table_text.proofs.line.memory_row.Goals as goal

pub returns-in_err-number : goal.returns-in_err-number
returns-in_err-number c = rw c.from_residual.ensures (record { some = tt; none = no_memory c.args.format _ c.in_err-number.ensures.none })
