use Rattle.std.proofs.Common.{sym, ap, ◌∙◌, Some}
use Rattle.cw_syntax.specs.declared.program.Expr.{out-Expr}
use Rattle.cw_syntax.specs.Trees.{Evaluates, trees_of}
use Rattle.cw_syntax.proofs.Shapes.{node_is}
use Rattle.cw_value.specs.Machines.{call_from, second_from}
use Rattle.cw_deeds.proofs.forms.second_of.Goals as goal

pub returns : goal.returns
returns c at =
    let o = out-Expr c.args.e.now in
    c.second_start.ensures ∙ ap (λ l. second_from o.from (trees_of l)) c.deref.ensures.value ∙ sym (ap (λ t. call_from at (Some (Evaluates t))) (node_is c.args.e.now))
