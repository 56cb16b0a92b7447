use Rattle.std.proofs.Common.{◌≡◌, ◌≢◌, ℕ, ◌-◌, ◌≤◌, length}
use Rattle.cw_core.specs.Ranges.{ranges}
use Rattle.cw_core.specs.StateSet.{IsBelow}
use Rattle.cw_core.proofs.Readings.{Reads}
use Rattle.cw_core.proofs.reading_ranges.set_of_runs.Given as goal

abbrev pub invariant-runs : goal.invariant-runs
invariant-runs l = record {
  reads : (target : ℕ) → IsBelow 1024 target → target ≢ 0 → ranges target ≡ l.text → Reads l.text target l.set l.at;
  within : l.at ≤ length l.text;
}

abbrev pub decreases-runs : goal.decreases-runs
decreases-runs l = length l.text - l.at
