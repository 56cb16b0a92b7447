use Rattle.std.proofs.Common.{◌≤◌, length}
use Rattle.cw_regex.specs.Labels.{names_in}
use Rattle.cw_regex.specs.Meaning.{names_of}
use Rattle.cw_regex.specs.Items.{levels_of}
use Rattle.cw_regex.proofs.Stepping.{PutSoFar}
use Rattle.cw_regex.proofs.items.build.Given as goal

abbrev pub invariant-loop : goal.invariant-loop
invariant-loop l = record {
  within : l.at ≤ length l.text;
  turns : l.counter ≤ l.at;
  so_far : PutSoFar l.format (names_in l.labels.keys) (names_of l.descriptors) l.text l.at (levels_of l.building);
}
