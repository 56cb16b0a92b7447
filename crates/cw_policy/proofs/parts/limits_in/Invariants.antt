use Rattle.std.proofs.Common.{◌≡◌, ◌++◌, drop}
use Rattle.toml.specs.View.{items_view}
use Rattle.cw_regex.specs.Meaning as meaning
use Rattle.cw_policy.specs.Parts as spec
use Rattle.cw_policy.proofs.parts.limits_in.Given as goal

abbrev pub invariant-items : goal.invariant-items
invariant-items l =
    let names = meaning.names_of l.descriptors in
    l.list.items ++ spec.limits_in l.format names (items_view (drop l.item-index l.items)) ≡ spec.limits_in l.format names (items_view l.items)
