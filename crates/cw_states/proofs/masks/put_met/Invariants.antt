use Rattle.std.proofs.Common.{◌≡◌, ◌++◌, map, take}
use Rattle.std.specs.Int.RustNames.{bit_and}
use Rattle.cw_states.proofs.masks.put_met.Given as goal

abbrev pub invariant-loop-other : goal.invariant-loop-other
invariant-loop-other l = record {
  done : l.masks.items ≡ l.initial.masks.items ++ map (bit_and l.set) (take l.other-index l.others);
}
