use Rattle.std.proofs.Common.{◌≡◌, ◌+◌, drop}
use Rattle.std.specs.Int.RustNames.{bit_or}
use Rattle.cw_rights.specs.Trees.{count, seq_of}
use Rattle.cw_dfa.specs.Tables.{picked, picks}
use Rattle.cw_dfa.proofs.matching.+picked.Given as goal

abbrev pub invariant-picked_row-loop-part : goal.invariant-picked_row-loop-part
invariant-picked_row-loop-part l = record {
  room : l.next + count (seq_of (drop l.part-index l.parts)) ≡ l.k + count (seq_of l.parts);
  so_far : bit_or l.set (picked (picks l.sought) (seq_of (drop l.part-index l.parts)) l.next) ≡ picked (picks l.sought) (seq_of l.parts) l.k;
}
