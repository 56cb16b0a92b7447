use Rattle.cw_consequences.proofs.Rowed.{table_kept}
use Rattle.cw_consequences.proofs.stopping.stop_keeps_the_table.Goals as goal

pub returns : goal.returns
returns c = table_kept
