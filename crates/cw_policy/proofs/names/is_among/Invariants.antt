use Rattle.std.proofs.Common.{◌≡◌, drop}
use Rattle.toml.specs.View.{items_view}
use Rattle.cw_policy.specs.Names as spec
use Rattle.cw_policy.proofs.names.is_among.Given as goal

abbrev pub invariant-items : goal.invariant-items
invariant-items l = spec.is_among (spec.names_of (items_view (drop l.item-index l.items))) l.name ≡ spec.is_among (spec.names_of (items_view l.items)) l.name
