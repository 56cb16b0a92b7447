use Rattle.std.proofs.Common.{ap, sym, ◌∙◌}
use Rattle.cw_syntax.specs.declared.program.Expr.{out-Expr}
use Rattle.cw_syntax.specs.declared.program.Op.TheVariants.{Assign}
use Rattle.cw_syntax.specs.Trees.{trees_of, Node}
use Rattle.cw_resolve.specs.Held.{lists}
use Rattle.cw_scope.proofs.Operators.{at_operator}
use Rattle.cw_detach.specs.Form.{result_of}
use Rattle.cw_detach.proofs.Nodes.{no_assignment}
use Rattle.cw_detach.proofs.spans.result_of.Goals as goal

pub returns-in-Assign : goal.returns-in-Assign
returns-in-Assign c =
    let e = c.args.e.now in
    let o = out-Expr e in
    let source = c.args.source.now in
    let names = lists c.args.names.now in
    c.assigned.ensures o.from o.to
    ∙ ap (λ es. result_of source names (Node (Assign c.in-Assign.by) (trees_of es) o.from o.to)) c.deref.ensures.value
    ∙ sym (at_operator (result_of source names) e (Assign c.in-Assign.by) c.in-Assign.is)

pub returns-in_default : goal.returns-in_default
returns-in_default c = sym (no_assignment c.args.source.now (lists c.args.names.now) c.args.e.now c.in_default.not-Assign)
