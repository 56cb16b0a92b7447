use Rattle.std.proofs.Common.{length, take, ◌-◌, ◌≤◌}
use Rattle.cw_io.specs.Pieces.{Grows}
use Rattle.cw_io.proofs.stream_sink.write_whole.Given as goal

-- the writer has taken the front of the piece
abbrev pub invariant-loop-done : goal.invariant-loop-done
invariant-loop-done g l = (l.done ≤ length l.piece) × Grows (g.W.Write.contents l.initial.writer) (g.W.Write.contents l.writer) (take l.done l.piece)

abbrev pub decreases-loop-done : goal.decreases-loop-done
decreases-loop-done g l = length l.piece - l.done
