use Rattle.std.proofs.Common.{◌≡◌, ◌++◌, map, drop}
use Rattle.cw_syntax.specs.Trees.{trees_of}
use Rattle.cw_scope.specs.Walks.{inner, listed}
use Rattle.cw_scope.specs.Held.{whole_of}
use Rattle.cw_scope.proofs.lists.put_list.Given as goal

abbrev pub invariant-loop-tree : goal.invariant-loop-tree
invariant-loop-tree l = map whole_of l.out.items ++ map inner (listed (trees_of (drop l.tree-index l.trees))) ≡ map whole_of l.initial.out.items ++ map inner (listed (trees_of l.trees))
