use Rattle.std.proofs.Common.{◌≡◌, ◌+◌, drop}
use Rattle.cw_rights.specs.Trees.{count, seq_of}
use Rattle.cw_dfa.proofs.matching.+spare.Given as goal

-- what is left, and what the parts before took
abbrev pub invariant-spare_row-loop-part : goal.invariant-spare_row-loop-part
invariant-spare_row-loop-part l = l.budget + count (seq_of (drop l.part-index l.parts)) ≡ l.left + count (seq_of l.parts)
