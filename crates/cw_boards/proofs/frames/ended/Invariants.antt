use Rattle.std.proofs.Common.{◌≡◌, ◌++◌, length}
use Rattle.cw_syntax.specs.Plans.{Scene}
use Rattle.cw_syntax.specs.Frames.{ended}
use Rattle.cw_boards.specs.Held.{frame_in}
use Rattle.cw_boards.proofs.frames.ended.Given as goal

abbrev pub invariant-loop-item : goal.invariant-loop-item
invariant-loop-item l = (s : Scene) → frame_in s l.ends ++ ended (frame_in s l.frame) ≡ ended (frame_in s l.initial.frame)

abbrev pub decreases-loop-item : goal.decreases-loop-item
decreases-loop-item l = length l.frame.items
