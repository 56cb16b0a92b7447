use Rattle.cw_boards.specs.Held.{frame_in}
use Rattle.cw_boards.proofs.Putting.{Puts}
use Rattle.cw_boards.proofs.frames.put_all.Given as goal

abbrev pub invariant-loop-i : goal.invariant-loop-i
invariant-loop-i l = Puts l.scene l.statements l.seam (frame_in l.scene l.fn.rest) l.i l.at (frame_in l.scene l.frame)

abbrev pub decreases-loop-i : goal.decreases-loop-i
decreases-loop-i l = l.i
