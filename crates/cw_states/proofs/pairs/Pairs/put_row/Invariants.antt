use Rattle.std.proofs.Common.{◌≡◌, ◌++◌, take}
use Rattle.cw_states.specs.Masks.{row}
use Rattle.cw_states.specs.States.{lists_of}
use Rattle.cw_states.specs.Tables.{index_of}
use Rattle.cw_states.proofs.pairs.Pairs.put_row.Given as goal

abbrev pub invariant-loop-mask : goal.invariant-loop-mask
invariant-loop-mask l = record {
  done : l.indices.items ≡ l.initial.indices.items ++ row (lists_of l.self) l.ahead (take l.mask-index l.tested);
  last : l.last.index ≡ index_of (lists_of l.self) l.last.set;
}
