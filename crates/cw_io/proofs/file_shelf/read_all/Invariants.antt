use Rattle.std.proofs.Common.{vec_len, ◌+◌, ◌-◌, ◌≤◌}
use Rattle.std.specs.Io.KnownBytes.{Consumes}
use Rattle.cw_io.proofs.file_shelf.read_all.Given as goal

-- what has been read is the front of what the file had left
abbrev pub invariant-loop-chunk : goal.invariant-loop-chunk
invariant-loop-chunk g l = (vec_len l.all ≤ l.max + 1) × Consumes (g.F.Read.remaining l.fn.file) (g.F.Read.remaining l.file) l.all.items

abbrev pub decreases-loop-chunk : goal.decreases-loop-chunk
decreases-loop-chunk g l = (l.max + 1) - vec_len l.all
