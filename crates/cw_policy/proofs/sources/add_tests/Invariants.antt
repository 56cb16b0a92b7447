use Rattle.std.proofs.Common.{◌≡◌, ◌++◌, map, suc, drop}
use Rattle.toml.specs.View.{items_view}
use Rattle.cw_policy.specs.Rules as spec
use Rattle.cw_policy.specs.Sources.{text_of}
use Rattle.cw_policy.proofs.sources.add_tests.Given as goal

abbrev pub invariant-items : goal.invariant-items
invariant-items l =
    (map text_of l.sources.items ++ spec.tests_in l.index l.label l.must l.number (items_view (drop l.item-index l.items)) ≡
    map text_of l.initial.sources.items ++ spec.tests_in l.index l.label l.must 1 (items_view l.items)) ×
    (l.number ≡ suc l.item-index)
