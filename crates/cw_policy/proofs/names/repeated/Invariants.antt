use Rattle.std.proofs.Common.{◌≡◌, [], take, drop}
use Rattle.toml.specs.View.{items_view}
use Rattle.cw_policy.specs.Names as spec
use Rattle.cw_policy.proofs.names.repeated.Given as goal

abbrev pub invariant-items : goal.invariant-items
invariant-items l =
    (spec.repeated (spec.names_of (items_view (take l.item-index l.items))) l.index (spec.names_of (items_view (drop l.item-index l.items)))
    ≡ spec.repeated [] 0 (spec.names_of (items_view l.items))) ×
    (l.index ≡ l.item-index)
