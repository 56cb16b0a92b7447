use Rattle.std.proofs.Common.{arith}
use Rattle.cw_cells.proofs.Kept.{took_one}
use Rattle.cw_cells.proofs.cells.Cells.first.Goals as goal

pub loop-at-preserved : goal.loop-at-preserved
loop-at-preserved c =
    (rw (c.in_ok-push.ensures.items, c.loop-at.invariant.0) (took_one c.args.self.now c.loop-at.at c.get.result (omega arith) c.get.ensures), omega arith)
