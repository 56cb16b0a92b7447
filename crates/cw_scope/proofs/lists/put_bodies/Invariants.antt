use Rattle.std.proofs.Common.{◌≡◌, ◌++◌, map, drop}
use Rattle.std.specs.List.{flat_map}
use Rattle.cw_syntax.specs.Trees.{definition_of}
use Rattle.cw_scope.specs.Walks.{body_of}
use Rattle.cw_scope.specs.Held.{nested_of}
use Rattle.cw_scope.proofs.lists.put_bodies.Given as goal

abbrev pub invariant-loop-function : goal.invariant-loop-function
invariant-loop-function l = map nested_of l.out.items ++ flat_map body_of (map definition_of (drop l.function-index l.functions)) ≡ map nested_of l.initial.out.items ++ flat_map body_of
    (map definition_of l.functions)
