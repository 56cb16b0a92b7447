use Rattle.std.proofs.Common.{◌≡◌, ◌++◌, map, drop}
use Rattle.cw_syntax.specs.Trees.{trees_of}
use Rattle.cw_scope.specs.Walks.{nodes_in}
use Rattle.cw_scope.specs.Held.{tree_at}
use Rattle.cw_scope.proofs.walks.+nodes.Given as goal

abbrev pub invariant-put_parts-loop-e : goal.invariant-put_parts-loop-e
invariant-put_parts-loop-e l = map tree_at l.out.items ++ nodes_in (trees_of (drop l.e-index l.parts)) ≡ map tree_at l.initial.out.items ++ nodes_in (trees_of l.parts)
