use Rattle.std.proofs.Common.{sym}
use Rattle.cw_syntax.specs.declared.program.Op.TheVariants.{Name as NameOp}
use Rattle.cw_scope.specs.Names.{plain_name}
use Rattle.cw_scope.proofs.Operators.{at_operator, isnt_plain}
use Rattle.cw_scope.proofs.names.plain_name.Goals as goal

pub returns-in-Name : goal.returns-in-Name
returns-in-Name c = sym (at_operator plain_name c.args.e.now NameOp c.in-Name.is)

pub returns-in_default : goal.returns-in_default
returns-in_default c = sym (isnt_plain c.args.e.now c.in_default.not-Name)
