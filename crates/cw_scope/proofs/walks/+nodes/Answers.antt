use Rattle.std.proofs.Common.{◌≡◌, ◌++◌, map, refl, ap, sym, ◌∙◌, subst}
use Rattle.std.specs.Result.{IfOk}
use Rattle.cw_syntax.specs.declared.program.Expr.{out-Expr}
use Rattle.cw_syntax.specs.Trees.{tree_of, trees_of}
use Rattle.cw_scope.specs.Walks.{nodes, nodes_in}
use Rattle.cw_scope.specs.Held.{tree_at}
use Rattle.cw_scope.proofs.Pushed.{pushed, further}
use Rattle.cw_scope.proofs.Shapes.{nodes_of}
use Rattle.cw_scope.proofs.walks.+nodes.Goals as goal

pub put_nodes-returns : goal.put_nodes-returns
put_nodes-returns t c =
    let e = c.args.e.now in
    let old = c.args.out.now.items in
    let new = map tree_at c.put_parts.new.out.items in
    let is =
    ap (λ l. map tree_at c.push.new.self.items ++ nodes_in (trees_of l)) c.deref.ensures.value
    ∙ pushed tree_at old c.push.new.self.items c.args.e (nodes_in (trees_of (out-Expr e).parts.items)) c.in_ok-push.ensures.items
    ∙ ap (λ l. map tree_at old ++ l) (sym (nodes_of e))
    in
    subst (λ l. IfOk c.put_parts.result (λ _. new ≡ l)) is c.put_parts.ensures

pub put_parts-loop-e-preserved : goal.put_parts-loop-e-preserved
put_parts-loop-e-preserved t c =
    let x = c.e-item.result in
    further (λ l. nodes_in (trees_of l)) c.args.parts.now c.loop-e.e-index x _ _ (nodes (tree_of x)) _ c.loop-e-test.true c.e-item.is (λ ys. refl) c.in_ok-put_nodes.ensures c.loop-e.invariant
