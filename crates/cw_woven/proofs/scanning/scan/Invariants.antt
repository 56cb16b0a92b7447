use Rattle.std.proofs.Common.{◌≤◌, map, length}
use Rattle.cw_woven.specs.Held.{insertion_of}
use Rattle.cw_woven.specs.Reading.{BeginsParted}
use Rattle.cw_woven.proofs.scanning.scan.Given as goal

abbrev pub invariant-marks : goal.invariant-marks
invariant-marks l = record {
  begins : BeginsParted l.text l.lines (map insertion_of l.marks.items) l.left;
  short : length l.left ≤ length l.text;
}

abbrev pub decreases-marks : goal.decreases-marks
decreases-marks l = length l.left
