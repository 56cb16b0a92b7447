use Rattle.std.proofs.Common.{length, take}
use Rattle.cw_text.specs.Tapes.{fields}
use Rattle.cw_text.specs.TapeLines.{Adds}
use Rattle.cw_text.proofs.tapes.read_line.Given as goal

abbrev pub invariant-loop-field : goal.invariant-loop-field
invariant-loop-field l = Adds l.play (take (length l.yielded) (fields l.line)) l.fn.moves.items l.moves.items
