use Rattle.std.proofs.Common.{sym}
use Rattle.cw_syntax.specs.declared.program.Op.TheVariants.{Call as CallOp}
use Rattle.cw_scope.specs.Rules.{is_call}
use Rattle.cw_scope.proofs.Operators.{at_operator, isnt_call}
use Rattle.cw_scope.proofs.rules.is_call.Goals as goal

pub returns-in-Call : goal.returns-in-Call
returns-in-Call c = sym (at_operator is_call c.args.e.now (CallOp c.in-Call.field-0) c.in-Call.is)

pub returns-in_default : goal.returns-in_default
returns-in_default c = sym (isnt_call c.args.e.now c.in_default.not-Call)
