use Rattle.std.proofs.Common.{◌≡◌, ◌++◌, map, drop}
use Rattle.std.specs.List.{flat_map}
use Rattle.cw_syntax.specs.Trees.{declaration_of}
use Rattle.cw_scope.specs.Walks.{inner, declaration_trees}
use Rattle.cw_scope.specs.Held.{whole_of}
use Rattle.cw_scope.proofs.lists.put_declarations.Given as goal

abbrev pub invariant-loop-declaration : goal.invariant-loop-declaration
invariant-loop-declaration l = map whole_of l.out.items ++ map inner (flat_map declaration_trees
    (map declaration_of (drop l.declaration-index l.declarations))) ≡ map whole_of l.initial.out.items ++ map inner (flat_map declaration_trees (map declaration_of l.declarations))
