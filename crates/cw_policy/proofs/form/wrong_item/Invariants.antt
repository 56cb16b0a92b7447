use Rattle.std.proofs.Common.{◌≡◌, suc, drop}
use Rattle.toml.specs.View.{items_view}
use Rattle.cw_policy.specs.Form as spec
use Rattle.cw_policy.proofs.form.wrong_item.Given as goal

abbrev pub invariant-items : goal.invariant-items
invariant-items l =
    (spec.first_in (spec.wrong_item l.key) l.number (items_view (drop l.item-index l.item-items)) ≡ spec.first_in (spec.wrong_item l.key) 1 (items_view l.item-items)) ×
    (l.number ≡ suc l.item-index)
