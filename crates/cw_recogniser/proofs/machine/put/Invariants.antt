use Rattle.std.proofs.Common.{◌≡◌, ◌≤◌, ◌++◌, length, drop, reverse}
use Rattle.cw_recogniser.proofs.machine.put.Given as goal

abbrev pub invariant-symbols : goal.invariant-symbols
invariant-symbols l = record {
  within : l.at ≤ length l.new;
  put : reverse l.stack.items ≡ drop l.at l.new ++ reverse l.fn.stack.items;
}

abbrev pub decreases-symbols : goal.decreases-symbols
decreases-symbols l = l.at
