use Rattle.std.proofs.Common.{◌+◌, ◌≤◌, false, length, drop}
use Rattle.indexmap.specs.IndexSet.{index_set_len}
use Rattle.cw_regex.specs.Parts.{parts}
use Rattle.cw_regex.specs.Meaning.{labels_in}
use Rattle.cw_regex.specs.Adding.{Adds}
use Rattle.cw_regex.specs.Labels.{names_in}
use Rattle.cw_regex.proofs.label.add_labels.Given as goal

abbrev pub invariant-loop : goal.invariant-loop
invariant-loop l = record {
  within : l.so_far.at ≤ length l.text;
  turns : l.counter ≤ l.so_far.at;
  few : index_set_len l.labels ≤ index_set_len l.initial.labels + l.counter;
  adds : Adds (names_in l.initial.labels.keys) (names_in l.labels.keys) (labels_in false (parts l.text)) (labels_in l.so_far.inside (parts (drop l.so_far.at l.text)));
}
