use Rattle.cw_links.specs.Flat.{AreRowsTo}
use Rattle.cw_links.proofs.rows.Rows.of.Given as goal

abbrev pub invariant-loop-list : goal.invariant-loop-list
invariant-loop-list g l = AreRowsTo l.trails l.values.items l.firsts.items l.list
