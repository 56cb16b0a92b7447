-- Each row so far comes before the next.
use Rattle.std.specs.Ordering.{on}
use Rattle.cw_lemmas.proofs.Rising.{Rises}
use Rattle.cw_certs.proofs.keys.ascends.Given as goal

abbrev pub invariant-loop-i : goal.invariant-loop-i
invariant-loop-i g l = Rises (on g.R.Keyed.key_of g.R.Key.Ord.cmp) l.rows l.i
