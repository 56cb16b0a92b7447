use Rattle.std.proofs.Common.{take}
use Rattle.cw_fixpoint.specs.Seen.{Adds}
use Rattle.cw_joins.specs.Seeing.{Sees}
use Rattle.cw_joins.proofs.seen.see_all.Given as goal

abbrev pub invariant-loop-key : goal.invariant-loop-key
invariant-loop-key g l = record {
  same : Sees g.K.Ord.cmp (g.I.Indices.index l.indices) l.seen;
  adds : Adds l.initial.seen.keys.items l.seen.keys.items (take l.key-index l.keys);
}
