use Rattle.std.proofs.Common.{◌≡◌, ◌++◌, map, drop}
use Rattle.toml.specs.View.{items_view}
use Rattle.cw_policy.specs.Rules as spec
use Rattle.cw_policy.specs.Sources.{text_of}
use Rattle.cw_policy.proofs.sources.add_expressions.Given as goal

abbrev pub invariant-items : goal.invariant-items
invariant-items l =
    (map text_of l.sources.items ++ spec.expression_texts l.index (items_view (drop l.item-index l.items)) ≡
    map text_of l.initial.sources.items ++ spec.expression_texts 0 (items_view l.items)) ×
    (l.index ≡ l.item-index)
