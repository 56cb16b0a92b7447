use Rattle.std.proofs.Common.{◌≤◌, ◌<◌, ◌-◌, length}
use Rattle.cw_links.specs.Flags.{rank}
use Rattle.cw_links.proofs.flags.Flags.index.Given as goal

abbrev pub invariant-loop-end : goal.invariant-loop-end
invariant-loop-end l = record {
  from : rank l.self l.index ≤ l.before;
  to : l.before < rank l.self l.end;
  up_to : l.end ≤ length l.self;
  apart : l.index < l.end;
}

abbrev pub decreases-loop-end : goal.decreases-loop-end
decreases-loop-end l = l.end - l.index
