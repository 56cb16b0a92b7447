use Rattle.std.proofs.Common.{[], ◌∷◌, map, refl}
use Rattle.cw_syntax.specs.Trees.{tree_of, trees_of}
use Rattle.cw_scope.specs.Walks.{inner, listed}
use Rattle.cw_scope.proofs.Pushed.{further, all_gone}
use Rattle.cw_scope.proofs.lists.put_list.Goals as goal

pub loop-tree-preserved : goal.loop-tree-preserved
loop-tree-preserved c =
    let x = c.tree-item.result in
    further (λ l. map inner (listed (trees_of l))) c.args.trees.now c.loop-tree.tree-index x _ _ (inner (tree_of x) ∷ []) _ c.loop-tree-test.true c.tree-item.is (λ ys. refl) (c.in_ok-put_inner.ensures) c.loop-tree.invariant

pub returns : goal.returns
returns c = all_gone (λ l. map inner (listed (trees_of l))) c.args.trees.now c.loop-tree.tree-index _ _ refl c.loop-tree-test.false c.loop-tree.invariant
