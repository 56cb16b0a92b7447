use Rattle.std.proofs.Common.{◌≤◌, length, drop}
use Rattle.cw_resolve.specs.Listed.{HaveNumbersFrom}
use Rattle.cw_resolve.proofs.name_list.put_all.Given as goal

abbrev pub invariant-loop-at : goal.invariant-loop-at
invariant-loop-at l = (l.at ≤ length l.names) × HaveNumbersFrom l.at l.numbers.entries (drop l.at l.names)

abbrev pub decreases-loop-at : goal.decreases-loop-at
decreases-loop-at l = l.at
