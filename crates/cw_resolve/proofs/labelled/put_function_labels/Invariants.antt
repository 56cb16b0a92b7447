use Rattle.std.proofs.Common.{◌≡◌, ◌++◌, map, drop}
use Rattle.std.specs.List.{flat_map}
use Rattle.cw_syntax.specs.Trees.{definition_of}
use Rattle.cw_resolve.specs.Labels.{labels_of_all}
use Rattle.cw_resolve.proofs.labelled.put_function_labels.Given as goal

abbrev pub invariant-loop-function : goal.invariant-loop-function
invariant-loop-function l = l.out.items ++ flat_map (λ f. labels_of_all f.body) (map definition_of (drop l.function-index l.functions)) ≡ l.initial.out.items ++ flat_map
    (λ f. labels_of_all f.body) (map definition_of l.functions)
