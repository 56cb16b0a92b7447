use Rattle.std.specs.Prelude.{codes}
use Rattle.cw_listing.proofs.Arrows.{put_behind, put_nothing}
use Rattle.cw_listing.proofs.listing.put_arrow.Goals as goal

pub returns-then-leads_on-clause-text : goal.returns-then-leads_on-clause-text
returns-then-leads_on-clause-text g c = put_behind (codes " ->") c.args.next.now _ _ _ c.if-leads_on.ensures c.put.ensures.text c.put_successors.ensures.text

pub returns-else-leads_on-clause-text : goal.returns-else-leads_on-clause-text
returns-else-leads_on-clause-text g c = put_nothing (codes " ->") c.args.next.now _ c.if-leads_on.ensures
