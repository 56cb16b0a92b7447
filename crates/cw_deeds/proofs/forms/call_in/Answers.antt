use Rattle.std.proofs.Common.{sym, ap, Some, ◌∙◌}
use Rattle.cw_syntax.specs.Trees.{form_of}
use Rattle.cw_value.specs.Machines.{call_from}
use Rattle.cw_points.proofs.Shapes.{for_form}
use Rattle.cw_deeds.proofs.forms.call_in.Goals as goal

pub returns-in-For : goal.returns-in-For
returns-in-For c = sym (ap (λ f. call_from c.args.at (Some f)) (for_form c.args.statement.now.what c.in-For.field-0 c.in-For.field-1 c.in-For.is).form_is)

pub returns-in-Expr : goal.returns-in-Expr
returns-in-Expr c = c.second_of.ensures c.args.at ∙ sym (ap (λ w. call_from c.args.at (Some (form_of w))) c.in-Expr.is)
