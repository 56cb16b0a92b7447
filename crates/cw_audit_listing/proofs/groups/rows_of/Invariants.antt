use Rattle.std.proofs.Common.{length}
use Rattle.cw_audit_listing.specs.Lists.{AreRead}
use Rattle.cw_audit_listing.proofs.groups.rows_of.Given as goal

abbrev pub invariant-rows : goal.invariant-rows
invariant-rows l = AreRead l.store l.entrance l.row_keys l.rest l.rows.items

abbrev pub decreases-rows : goal.decreases-rows
decreases-rows l = length l.rest
