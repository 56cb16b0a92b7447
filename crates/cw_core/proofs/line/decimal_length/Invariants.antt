use Rattle.std.proofs.Common.{◌+◌, ◌≡◌, ◌≤◌, length}
use Rattle.std.specs.Fmt.{decimal}
use Rattle.cw_core.proofs.line.decimal_length.Given as goal

abbrev pub invariant-fours : goal.invariant-fours
invariant-fours l = record {
  sum : l.count + length (decimal l.left) ≡ length (decimal l.n);
  few : l.count ≤ 20;
}

abbrev pub decreases-fours : goal.decreases-fours
decreases-fours l = l.left
