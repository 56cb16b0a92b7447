use Rattle.std.proofs.Common.{ℕ, ◌<◌, ◌≤◌, ◌⊎◌}
use Rattle.std.specs.Prelude.{IsTrue, ◌↔◌}
use Rattle.cw_core.specs.StateSet.{has}
use Rattle.cw_core.proofs.reading_ranges.insert_run.Given as goal

abbrev pub invariant-loop-number : goal.invariant-loop-number
invariant-loop-number l = (s : ℕ) → IsTrue (has l.set s) ↔ (((l.least ≤ s) × (s < l.number)) ⊎ IsTrue (has l.fn.set s))
