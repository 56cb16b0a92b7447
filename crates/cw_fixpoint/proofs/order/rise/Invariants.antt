use Rattle.cw_lemmas.proofs.Rising.{Rises}
use Rattle.cw_fixpoint.proofs.order.rise.Given as goal

abbrev pub invariant-loop-i : goal.invariant-loop-i
invariant-loop-i g l = Rises g.T.Ord.cmp l.items l.i
