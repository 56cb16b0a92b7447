use Rattle.std.proofs.Common.{length, arith}
use Rattle.cw_cells.proofs.Kept.{behind}
use Rattle.cw_cells.proofs.cells.Cells.of.Goals as goal

pub returns : goal.returns
returns c = record { made = rw (c.in_ok-write.ensures.written, c.new-cells.ensures.made) (behind c.args.first.now (length c.args.first.now) _ c.args.size c.args.cell (omega arith)) }
