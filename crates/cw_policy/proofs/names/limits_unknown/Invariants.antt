use Rattle.std.proofs.Common.{◌≡◌, drop}
use Rattle.toml.specs.View.{items_view}
use Rattle.cw_policy.specs.Form as form
use Rattle.cw_policy.specs.Names as spec
use Rattle.cw_policy.proofs.names.limits_unknown.Given as goal

abbrev pub invariant-items : goal.invariant-items
invariant-items l =
    let test = spec.limit_unknown l.format (spec.names_of (items_view l.descriptors)) in
    (form.first_in test l.index (items_view (drop l.item-index l.items)) ≡ form.first_in test 0 (items_view l.items)) ×
    (l.index ≡ l.item-index)
