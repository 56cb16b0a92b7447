use Rattle.std.proofs.Common.{length, ◌-◌, ◌≤◌}
use Rattle.cw_io.specs.Written.{Follows}
use Rattle.cw_base_tests.proofs.pieces.put_parts.Given as goal

abbrev pub invariant-parts : goal.invariant-parts
invariant-parts g l = (l.at ≤ length l.text) × Follows g.S.Sink.taken g.S.Sink.faults g.S.Sink.refused l.writer l.out

abbrev pub decreases-parts : goal.decreases-parts
decreases-parts g l = length l.text - l.at
