use Rattle.std.proofs.Common.{◌-◌, length}
use Rattle.cw_regex.specs.Scans.{ScanAt}
use Rattle.cw_regex.proofs.scan.scan_all.Given as goal

abbrev pub invariant-loop-scan : goal.invariant-loop-scan
invariant-loop-scan l = ScanAt l.alone l.text l.scan

abbrev pub decreases-loop-scan : goal.decreases-loop-scan
decreases-loop-scan l = length l.text - l.scan.at
