use Rattle.std.proofs.Common.{◌≡◌, ℕ, ◌-◌, ◌<◌, ◌≤◌, true}
use Rattle.cw_core.specs.StateSet.{has}
use Rattle.cw_core.proofs.ranges.greatest_of_run.Given as goal

abbrev pub invariant-more : goal.invariant-more
invariant-more l = record {
  low : l.least ≤ l.greatest;
  high : l.greatest < 1024;
  members : (s : ℕ) → l.least ≤ s → s ≤ l.greatest → has l.set s ≡ true;
}

abbrev pub decreases-more : goal.decreases-more
decreases-more l = 1023 - l.greatest
