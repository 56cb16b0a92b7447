use Rattle.std.proofs.Common.{◌≡◌, ◌≤◌, false, length, drop}
use Rattle.cw_regex.specs.Parts.{placed}
use Rattle.cw_regex.specs.Meaning.{names_of}
use Rattle.cw_regex.specs.Faults.{first_unknown}
use Rattle.cw_regex.proofs.unknown.first_unknown.Given as goal

abbrev pub invariant-loop : goal.invariant-loop
invariant-loop l = record {
  within : l.so_far.at ≤ length l.text;
  turns : l.counter ≤ l.so_far.at;
  same : first_unknown l.format (names_of l.descriptors) l.so_far.after (placed l.so_far.at (drop l.so_far.at l.text)) ≡ first_unknown l.format (names_of l.descriptors) false (placed 0 l.text);
}
