use Rattle.std.proofs.Common.{◌≡◌, cond, slice_index}
use Rattle.std.specs.Int.RustNames.{bit_or}
use Rattle.cw_dfa.specs.Sets.{has}
use Rattle.cw_dfa.specs.Tables.{unite}
use Rattle.cw_dfa.proofs.tables.following.Given as goal

abbrev pub invariant-loop-p : goal.invariant-loop-p
invariant-loop-p l = l.next ≡ bit_or (cond (has l.set 0) l.tables.first 0) (unite (slice_index l.tables.follow) l.p l.set)
