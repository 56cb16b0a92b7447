use Rattle.std.proofs.Common.{sym}
use Rattle.cw_syntax.specs.declared.program.Op.TheVariants.{Call as CallOp}
use Rattle.cw_scope.specs.Names.{called_name}
use Rattle.cw_scope.proofs.Operators.{at_operator, isnt_called}
use Rattle.cw_scope.proofs.names.called_name.Goals as goal

pub returns-in-Call : goal.returns-in-Call
returns-in-Call c = sym (at_operator called_name c.args.e.now (CallOp c.in-Call.name) c.in-Call.is)

pub returns-in_default : goal.returns-in_default
returns-in_default c = sym (isnt_called c.args.e.now c.in_default.not-Call)
