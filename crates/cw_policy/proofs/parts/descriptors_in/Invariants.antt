use Rattle.std.proofs.Common.{◌≡◌, ◌++◌, map, drop}
use Rattle.toml.specs.View.{items_view}
use Rattle.cw_rights.specs.Policies.{descriptor_of}
use Rattle.cw_policy.specs.Parts as spec
use Rattle.cw_policy.proofs.parts.descriptors_in.Given as goal

abbrev pub invariant-items : goal.invariant-items
invariant-items l = map descriptor_of l.list.items ++ spec.descriptors_in l.format (items_view (drop l.item-index l.items)) ≡ spec.descriptors_in l.format (items_view l.items)
