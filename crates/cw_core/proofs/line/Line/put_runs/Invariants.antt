use Rattle.std.proofs.Common.{◌≡◌, ◌-◌, ◌≤◌}
use Rattle.cw_core.specs.Ranges.{ranges}
use Rattle.cw_core.proofs.Runs.{runs_from}
use Rattle.cw_core.proofs.RunTexts.{continued}
use Rattle.cw_core.proofs.line.Line.put_runs.Given as goal

abbrev pub invariant-numbers : goal.invariant-numbers
invariant-numbers l = record {
  text : continued l.self (runs_from l.set l.at (1025 - l.at)) ≡ ranges l.set;
  small : l.at ≤ 1025;
}

abbrev pub decreases-numbers : goal.decreases-numbers
decreases-numbers l = 1025 - l.at
