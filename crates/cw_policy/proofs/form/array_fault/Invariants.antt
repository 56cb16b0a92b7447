use Rattle.std.proofs.Common.{◌≡◌, drop}
use Rattle.toml.specs.View.{items_view}
use Rattle.cw_policy.specs.Form as spec
use Rattle.cw_policy.proofs.form.array_fault.Given as goal

abbrev pub invariant-items : goal.invariant-items
invariant-items l =
    (spec.first_in (spec.element_fault l.format l.section) l.index (items_view (drop l.item-index l.items)) ≡ spec.first_in (spec.element_fault l.format l.section) 0 (items_view l.items)) ×
    (l.index ≡ l.item-index)
