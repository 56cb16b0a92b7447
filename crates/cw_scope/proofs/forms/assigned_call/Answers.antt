use Rattle.std.proofs.Common.{sym}
use Rattle.cw_syntax.specs.Trees.{tree_of, more, none}
use Rattle.cw_scope.proofs.Standing.{first_is_other, second_is_other, assigns}
use Rattle.cw_scope.proofs.forms.assigned_call.Goals as goal

pub returns-in-Call : goal.returns-in-Call
returns-in-Call c = λ from to. sym (assigns c.args.x.now c.args.value.now c.in-Call.field-0 from to c.in-Name.is c.in-Call.is)

pub returns-in_default-op : goal.returns-in_default-op
returns-in_default-op c = λ from to. sym (second_is_other c.args.x.now c.args.value.now from to c.in-Name.is c.in_default-op.not-Call)

pub returns-in_default : goal.returns-in_default
returns-in_default c = λ from to. sym (first_is_other c.args.x.now (more (tree_of c.args.value.now) none) from to c.in_default.not-Name)
