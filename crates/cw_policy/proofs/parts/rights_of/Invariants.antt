use Rattle.std.proofs.Common.{◌≡◌, ◌≤◌, drop}
use Rattle.toml.specs.View.{items_view}
use Rattle.cw_rights.specs.Names.{all_rights}
use Rattle.cw_policy.specs.Parts as spec
use Rattle.cw_policy.proofs.parts.rights_of.Given as goal

abbrev pub invariant-items : goal.invariant-items
invariant-items l = (spec.rights_of l.format l.rights (items_view (drop l.item-index l.items)) ≡ spec.rights_of l.format 0 (items_view l.items)) × (l.rights ≤ all_rights)
