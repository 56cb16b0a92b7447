use Rattle.std.proofs.Common.{take}
use Rattle.std.specs.BTreeSet.{IsOrdered}
use Rattle.cw_fixpoint.proofs.Different.{HasSame}
use Rattle.cw_fixpoint.proofs.order.ordered.Given as goal

abbrev pub invariant-loop-item : goal.invariant-loop-item
invariant-loop-item g l = record {
  order : IsOrdered g.T.Ord.cmp l.set;
  same : HasSame l.set.keys (take l.item-index l.items);
}
