use Rattle.cw_joins.proofs.Hints.{seen_none}
use Rattle.cw_joins.proofs.seen.none_seen.Goals as goal

pub returns-clause-same : goal.returns-clause-same
returns-clause-same g c = rw (c.in_ok-with_capacity.ensures.items, c.new.ensures.empty) (seen_none g.K.Ord.cmp (g.I.Indices.index c.args.indices.now) c.in_ok-vec.field-0.items)
