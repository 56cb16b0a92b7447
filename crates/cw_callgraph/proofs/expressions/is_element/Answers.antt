use Rattle.std.proofs.Common.{sym, ap, ◌∙◌}
use Rattle.cw_syntax.specs.declared.program.Expr.{out-Expr}
use Rattle.cw_syntax.specs.Trees.{trees_of}
use Rattle.cw_callgraph.specs.Forbidding.{element_at}
use Rattle.cw_callgraph.proofs.Nodes.{element_is}
use Rattle.cw_callgraph.proofs.expressions.is_element.Goals as goal

pub returns : goal.returns
returns c =
    let s = c.args.scope.now in
    c.element_at.ensures
    ∙ ap (λ l. element_at s.source.now s.file.now s.inner.now (out-Expr c.args.e.now).op (trees_of l)) c.deref.ensures.value
    ∙ sym (element_is s.source.now s.file.now s.inner.now c.args.e.now)
