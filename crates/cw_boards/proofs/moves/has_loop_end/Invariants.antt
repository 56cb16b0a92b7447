use Rattle.std.proofs.Common.{◌≡◌, drop, map}
use Rattle.cw_syntax.specs.Plans.{Scene}
use Rattle.cw_syntax.specs.Frames.{broken}
use Rattle.cw_boards.specs.Held.{item_of, frame_in}
use Rattle.cw_boards.proofs.moves.has_loop_end.Given as goal

abbrev pub invariant-loop-i : goal.invariant-loop-i
invariant-loop-i l = (s : Scene) → broken (map (item_of s) (drop l.i l.frame.items)) ≡ broken (frame_in s l.frame)
