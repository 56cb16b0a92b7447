use Rattle.std.proofs.Common.{◌≡◌, suc, drop}
use Rattle.toml.specs.View.{items_view}
use Rattle.cw_policy.specs.Form as form
use Rattle.cw_policy.specs.Names as spec
use Rattle.cw_policy.proofs.names.unknown_right.Given as goal

abbrev pub invariant-items : goal.invariant-items
invariant-items l =
    (form.first_in (spec.unknown_right l.format) l.number (items_view (drop l.item-index l.items)) ≡ form.first_in (spec.unknown_right l.format) 1 (items_view l.items)) ×
    (l.number ≡ suc l.item-index)
