use Rattle.std.proofs.Common.{◌≡◌, drop, []}
use Rattle.toml.specs.View.{items_view}
use Rattle.cw_regex.specs.Labels.{names_in}
use Rattle.cw_policy.specs.Parts as spec
use Rattle.cw_policy.proofs.parts.labels_of.Given as goal

abbrev pub invariant-items : goal.invariant-items
invariant-items l = spec.labels_from (names_in l.labels.keys) (items_view (drop l.item-index l.items)) ≡ spec.labels_from [] (items_view l.items)
