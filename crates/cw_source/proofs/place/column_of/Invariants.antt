use Rattle.std.proofs.Common.{◌≡◌, ◌≤◌, ◌+◌, take}
use Rattle.cw_source.specs.Places.{column_behind}
use Rattle.cw_source.proofs.place.column_of.Given as goal

abbrev pub invariant-loop-byte : goal.invariant-loop-byte
invariant-loop-byte l = record {
  so_far : l.column ≡ column_behind (take l.byte-index l.front);
  within : l.column ≤ l.byte-index + 1;
}
