use Rattle.std.proofs.Common.{◌≡◌}
use Rattle.cw_states.specs.States.{lists_of}
use Rattle.cw_states.specs.Tables.{index_after, tabled}
use Rattle.cw_states.proofs.pairs.Pairs.indices_after.Given as goal

abbrev pub invariant-loop-column : goal.invariant-loop-column
invariant-loop-column l = record {
  done : l.indices.items ≡ tabled (index_after (lists_of l.self) l.act) l.column;
}
