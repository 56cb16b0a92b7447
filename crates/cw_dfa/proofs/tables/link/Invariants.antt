use Rattle.std.proofs.Common.{◌≡◌, ℕ, ◌<◌, ◌≤◌, slice_index}
use Rattle.std.specs.Int.RustNames.{bit_or}
use Rattle.cw_dfa.specs.Tables.{linked}
use Rattle.cw_dfa.proofs.tables.link.Given as goal

abbrev pub invariant-loop-p : goal.invariant-loop-p
invariant-loop-p l = record {
  done : (q : ℕ) → q < l.p → slice_index l.follow q ≡ bit_or (slice_index l.initial.follow q) (linked l.from l.to q);
  left : (q : ℕ) → l.p ≤ q → slice_index l.follow q ≡ slice_index l.initial.follow q;
}
