use Rattle.std.proofs.Common.{arith}
use Rattle.cw_cells.proofs.Kept.{wrote_one}
use Rattle.cw_cells.proofs.cells.Cells.write.Goals as goal

pub loop-at-preserved : goal.loop-at-preserved
loop-at-preserved c = (rw (c.in_ok-set.ensures.written, c.loop-at.invariant.0) (wrote_one c.args.first.now c.args.self.now c.loop-at.at _ (omega arith) (omega arith)), omega arith)
