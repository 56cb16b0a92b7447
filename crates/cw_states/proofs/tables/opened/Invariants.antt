use Rattle.std.proofs.Common.{◌≡◌}
use Rattle.cw_states.specs.declared.acts.Act.TheVariants.{Opened}
use Rattle.cw_states.specs.States.{lists_of}
use Rattle.cw_states.specs.Tables.{all_items, indices_after, tabled}
use Rattle.cw_states.proofs.tables.opened.Given as goal

abbrev pub invariant-loop-descriptor : goal.invariant-loop-descriptor
invariant-loop-descriptor l = record {
  done : all_items l.columns.items ≡ tabled (λ d. indices_after (lists_of l.pairs) (Opened d)) l.descriptor;
}
