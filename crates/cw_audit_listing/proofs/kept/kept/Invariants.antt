use Rattle.std.proofs.Common.{◌≡◌, take}
use Rattle.std.specs.List.{filter}
use Rattle.indexmap.specs.IndexMap.{keys}
use Rattle.cw_audit_listing.specs.Lists.{is_below}
use Rattle.cw_audit_listing.proofs.kept.kept.Given as goal

abbrev pub invariant-loop-number : goal.invariant-loop-number
invariant-loop-number l = l.below.items ≡ filter (is_below l.store l.bound) (take l.number (keys l.store.rows))
