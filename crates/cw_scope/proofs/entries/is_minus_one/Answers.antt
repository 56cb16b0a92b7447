use Rattle.std.proofs.Common.{ap, sym, ◌∙◌}
use Rattle.cw_syntax.specs.declared.program.Expr.{out-Expr}
use Rattle.cw_syntax.specs.Trees.{trees_of, Node}
use Rattle.cw_scope.specs.Descriptors.{is_minus_one}
use Rattle.cw_syntax.proofs.Shapes.{node_is}
use Rattle.cw_scope.proofs.entries.is_minus_one.Goals as goal

pub returns : goal.returns
returns c =
    let e = c.args.e.now in
    let o = out-Expr e in
    c.is_minus_one_of.ensures o.from o.to ∙ ap (λ l. is_minus_one (Node o.op (trees_of l) o.from o.to)) c.deref.ensures.value ∙ sym (ap is_minus_one (node_is e))
