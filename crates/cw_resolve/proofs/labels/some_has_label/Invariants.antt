use Rattle.std.proofs.Common.{◌≡◌, map, drop}
use Rattle.std.specs.List.{list_any, flat_map}
use Rattle.std.specs.Str.{bytes_eq}
use Rattle.cw_syntax.specs.Names.{text}
use Rattle.cw_syntax.specs.Trees.{definition_of}
use Rattle.cw_resolve.specs.Labels.{labels_of_all}
use Rattle.cw_resolve.proofs.labels.some_has_label.Given as goal

abbrev pub invariant-loop-function : goal.invariant-loop-function
invariant-loop-function l = list_any (bytes_eq l.name) (map (λ x. text l.source x.name) (flat_map (λ f. labels_of_all f.body) (map definition_of (drop l.function-index l.functions)))) ≡ list_any
    (bytes_eq l.name) (map (λ x. text l.source x.name) (flat_map (λ f. labels_of_all f.body) (map definition_of l.functions)))
