use Rattle.std.proofs.Common.{◌≤◌, length}
use Rattle.cw_regex.specs.Meaning.{names_of}
use Rattle.cw_regex.proofs.Subjects.{TestsSoFar}
use Rattle.cw_regex.proofs.test.tests.Given as goal

abbrev pub invariant-loop : goal.invariant-loop
invariant-loop l = record {
  within : l.from ≤ length l.text;
  turns : l.counter ≤ l.from;
  on : l.at ≤ l.from;
  so_far : TestsSoFar l.format (names_of l.descriptors) l.text l.at l.from l.read.items;
}
