use Rattle.std.proofs.Common.{◌≡◌, ◌++◌, map, drop}
use Rattle.toml.specs.View.{items_view}
use Rattle.cw_policy.specs.Names as names
use Rattle.cw_policy.proofs.parts.names_of.Given as goal

abbrev pub invariant-items : goal.invariant-items
invariant-items l = map (λ name. name.items) l.list.items ++ names.names_of (items_view (drop l.item-index l.items)) ≡ names.names_of (items_view l.items)
