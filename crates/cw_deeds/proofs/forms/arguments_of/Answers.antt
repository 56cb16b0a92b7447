use Rattle.std.proofs.Common.{sym, ap, ◌∙◌}
use Rattle.cw_syntax.specs.declared.program.Expr.{out-Expr}
use Rattle.cw_syntax.specs.Trees.{Node, trees_of}
use Rattle.cw_syntax.proofs.Shapes.{node_is}
use Rattle.cw_value.specs.Deeds.{arguments_of}
use Rattle.cw_deeds.proofs.forms.arguments_of.Goals as goal

pub returns : goal.returns
returns c =
    let o = out-Expr c.args.e.now in
    c.arguments_in.ensures o.from o.to ∙ ap (λ l. arguments_of (Node o.op (trees_of l) o.from o.to)) c.deref.ensures.value ∙ sym (ap arguments_of (node_is c.args.e.now))
