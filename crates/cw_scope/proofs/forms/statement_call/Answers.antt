use Rattle.std.proofs.Common.{ap, sym, ◌∙◌}
use Rattle.cw_syntax.specs.declared.program.Expr.{out-Expr}
use Rattle.cw_syntax.specs.declared.program.Op.TheVariants.{Assign}
use Rattle.cw_syntax.specs.Trees.{trees_of, Node}
use Rattle.cw_scope.specs.Rules.{statement_call}
use Rattle.cw_scope.proofs.Operators.{at_operator}
use Rattle.cw_scope.proofs.Standing.{calls_itself, no_statement_call}
use Rattle.cw_scope.proofs.forms.statement_call.Goals as goal

pub returns-in-Call : goal.returns-in-Call
returns-in-Call c = sym (calls_itself c.args.e.now c.in-Call.field-0 c.in-Call.is)

pub returns-in-Assign : goal.returns-in-Assign
returns-in-Assign c =
    let e = c.args.e.now in
    let o = out-Expr e in
    c.assignment_call.ensures o.from o.to
    ∙ ap (λ es. statement_call (Node (Assign c.in-Assign.by) (trees_of es) o.from o.to)) c.deref.ensures.value
    ∙ sym (at_operator statement_call e (Assign c.in-Assign.by) c.in-Assign.is)

pub returns-in_default : goal.returns-in_default
returns-in_default c = sym (no_statement_call c.args.e.now c.in_default.not-Call c.in_default.not-Assign)
