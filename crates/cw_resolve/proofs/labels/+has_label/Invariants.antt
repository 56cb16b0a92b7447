use Rattle.std.proofs.Common.{◌≡◌, map, drop}
use Rattle.std.specs.List.{list_any}
use Rattle.std.specs.Str.{bytes_eq}
use Rattle.cw_syntax.specs.Names.{text}
use Rattle.cw_syntax.specs.Trees.{statements_of}
use Rattle.cw_resolve.specs.Labels.{labels_of_all}
use Rattle.cw_resolve.proofs.labels.+has_label.Given as goal

abbrev pub invariant-has_label_in-loop-statement : goal.invariant-has_label_in-loop-statement
invariant-has_label_in-loop-statement l = list_any (bytes_eq l.name) (map (λ x. text l.source x.name) (labels_of_all (statements_of (drop l.statement-index l.statements)))) ≡ list_any
    (bytes_eq l.name)
    (map (λ x. text l.source x.name) (labels_of_all (statements_of l.statements)))
