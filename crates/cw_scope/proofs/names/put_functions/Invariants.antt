use Rattle.std.proofs.Common.{◌≡◌, ◌++◌, map, drop}
use Rattle.std.specs.List.{flat_map}
use Rattle.cw_syntax.specs.Trees.{definition_of}
use Rattle.cw_scope.specs.Names.{param_names}
use Rattle.cw_scope.proofs.names.put_functions.Given as goal

abbrev pub invariant-loop-function : goal.invariant-loop-function
invariant-loop-function l = l.out.items ++ flat_map (λ f. param_names f.params) (map definition_of (drop l.function-index l.functions)) ≡ l.initial.out.items ++ flat_map
    (λ f. param_names f.params) (map definition_of l.functions)
