use Rattle.std.proofs.Common.{◌++◌, ◌&&◌, cond, map, ap, ap₂, sym, ◌∙◌}
use Rattle.cw_syntax.specs.Trees.{tree_of, trees_of, parts_of}
use Rattle.cw_scope.specs.Walks.{nodes, nodes_in}
use Rattle.cw_scope.specs.Held.{tree_at}
use Rattle.cw_scope.proofs.Operators.{parts_are}
use Rattle.cw_scope.proofs.misuses.put_used.Goals as goal

pub returns-in_ok-put_parts : goal.returns-in_ok-put_parts
returns-in_ok-put_parts c =
    let old = map tree_at c.args.out.now.items in
    let tree = c.args.whole.tree.now in
    c.in_ok-put_parts.ensures
    ∙ ap (λ l. old ++ nodes_in (trees_of l)) c.deref.ensures.value
    ∙ ap (λ ts. old ++ nodes_in ts) (sym (parts_are tree))
    ∙ ap₂ (λ a b. old ++ cond (a && b) (nodes_in (parts_of (tree_of tree))) (nodes (tree_of tree))) (sym c.if-whole.true) (sym c.if-is_own.true ∙ c.is_own.ensures)
