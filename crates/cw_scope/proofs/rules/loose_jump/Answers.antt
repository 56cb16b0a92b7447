use Rattle.std.proofs.Common.{sym}
use Rattle.cw_scope.proofs.Shapes.{no_jump}
use Rattle.cw_scope.proofs.rules.loose_jump.Goals as goal

pub returns-in-For : goal.returns-in-For
returns-in-For c = sym (no_jump c.args.nested.looped c.args.nested.statement.now c.in-For.field-0 c.in-For.field-1 c.in-For.is)
