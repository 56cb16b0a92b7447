use Rattle.std.proofs.Common.{◌≡◌, length, take, ◌++◌, ◌-◌, ◌≤◌}
use Rattle.cw_io.specs.Written.{Follows}
use Rattle.cw_io.proofs.writer.Writer.put_in_fronts.Given as goal

-- the text has gone on with the front of the piece
abbrev pub invariant-fronts : goal.invariant-fronts
invariant-fronts g l = (l.at ≤ length l.piece)
    × (l.self.text ≡ l.initial.self.text ++ take l.at l.piece)
    × (l.self.begun ≡ l.initial.self.begun)
    × Follows g.S.Sink.taken g.S.Sink.faults g.S.Sink.refused l.self l.out

abbrev pub decreases-fronts : goal.decreases-fronts
decreases-fronts g l = length l.piece - l.at
