use Rattle.cw_cells.proofs.Kept.{renewed}
use Rattle.cw_cells.proofs.cells.Cells.renew.Goals as goal

pub returns : goal.returns
returns c = record { made = renewed c.next_turn-self-inside.result c.args.size c.args.cell c.next_turn-self-inside.new.entries.items c.next_turn-self-inside.ensures.before }
