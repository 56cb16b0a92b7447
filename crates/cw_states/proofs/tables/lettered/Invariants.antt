use Rattle.std.proofs.Common.{◌≡◌}
use Rattle.cw_states.specs.States.{lists_of}
use Rattle.cw_states.specs.Tables.{all_items, entries, tabled}
use Rattle.cw_states.proofs.tables.lettered.Given as goal

abbrev pub invariant-loop-label : goal.invariant-loop-label
invariant-loop-label l = record {
  done : all_items l.columns.items ≡ tabled (entries (lists_of l.pairs)) l.label;
}
