use Rattle.std.proofs.Common.{◌≡◌, ◌++◌, map, drop}
use Rattle.cw_syntax.specs.Trees.{definition_of}
use Rattle.cw_scope.proofs.names.put_function_names.Given as goal

abbrev pub invariant-loop-function : goal.invariant-loop-function
invariant-loop-function l = l.out.items ++ map (λ f. f.name) (map definition_of (drop l.function-index l.functions)) ≡ l.initial.out.items ++ map (λ f. f.name) (map definition_of l.functions)
