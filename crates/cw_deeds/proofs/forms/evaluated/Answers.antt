use Rattle.std.proofs.Common.{sym, ap}
use Rattle.cw_value.specs.Deeds.{evaluated}
use Rattle.cw_points.proofs.Shapes.{for_form}
use Rattle.cw_deeds.proofs.forms.evaluated.Goals as goal

pub returns-in-For : goal.returns-in-For
returns-in-For c = sym (ap evaluated (for_form c.args.statement.now.what c.in-For.field-0 c.in-For.field-1 c.in-For.is).form_is)
