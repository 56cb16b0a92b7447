use Rattle.std.proofs.Common.{◌≡◌}
use Rattle.cw_syntax.specs.Frames.{settle}
use Rattle.cw_boards.specs.Held.{frame_in}
use Rattle.cw_boards.specs.Rewriting.{frame_weight}
use Rattle.cw_boards.proofs.frames.settle.Given as goal

abbrev pub invariant-loop-item : goal.invariant-loop-item
invariant-loop-item l = settle (frame_in l.scene l.frame) ≡ settle (frame_in l.scene l.initial.frame)

abbrev pub decreases-loop-item : goal.decreases-loop-item
decreases-loop-item l = frame_weight (frame_in l.scene l.frame)
