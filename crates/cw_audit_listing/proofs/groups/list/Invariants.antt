use Rattle.std.proofs.Common.{map, length}
use Rattle.cw_audit_table.specs.Tables.{group_of}
use Rattle.cw_audit_listing.specs.Lists.{AreSoFar}
use Rattle.cw_audit_listing.proofs.groups.list.Given as goal

abbrev pub invariant-groups : goal.invariant-groups
invariant-groups l = AreSoFar l.store l.row_keys l.rest (map group_of l.groups.items)

abbrev pub decreases-groups : goal.decreases-groups
decreases-groups l = length l.rest
