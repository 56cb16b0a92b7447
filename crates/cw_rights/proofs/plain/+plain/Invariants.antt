use Rattle.std.proofs.Common.{◌≡◌, ◌+◌, ◌*◌, ◌&&◌, false, take, drop, length}
use Rattle.cw_rights.specs.Trees.{tree_of, seq_of, alt_of}
use Rattle.cw_rights.specs.Plain.{plain, some_below, chain, cost}
use Rattle.cw_rights.proofs.plain.+plain.Given as goal

abbrev pub decreases-plain : goal.decreases-plain
decreases-plain l = cost (tree_of l.r.now) (length l.word.now) + 1

abbrev pub decreases-plain_cat : goal.decreases-plain_cat
decreases-plain_cat l = cost (seq_of l.parts.now) (length l.word.now)

abbrev pub decreases-plain_or : goal.decreases-plain_or
decreases-plain_or l = cost (alt_of l.parts.now) (length l.word.now)

abbrev pub decreases-plain_star : goal.decreases-plain_star
decreases-plain_star l = (length l.word.now + 1) * (cost (tree_of l.body.now) (length l.word.now) + 2)

abbrev pub invariant-plain_cat-loop-i : goal.invariant-plain_cat-loop-i
invariant-plain_cat-loop-i l = some_below l.i (λ i. plain (tree_of l.first) (take i l.word) && plain (seq_of l.rest) (drop i l.word)) ≡ false

abbrev pub invariant-plain_star-loop-i : goal.invariant-plain_star-loop-i
invariant-plain_star-loop-i l = some_below l.i (λ i. plain (tree_of l.body) (take (i + 1) l.word) && chain (plain (tree_of l.body)) (length (drop (i + 1) l.word)) (drop (i + 1) l.word)) ≡ false
