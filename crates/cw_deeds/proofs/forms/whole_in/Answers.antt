use Rattle.std.proofs.Common.{sym, ap, Some}
use Rattle.cw_value.specs.Machines.{whole_from}
use Rattle.cw_points.proofs.Shapes.{for_form}
use Rattle.cw_deeds.proofs.forms.whole_in.Goals as goal

pub returns-in-For : goal.returns-in-For
returns-in-For c = sym (ap (λ f. whole_from c.args.at (Some f)) (for_form c.args.statement.now.what c.in-For.field-0 c.in-For.field-1 c.in-For.is).form_is)
