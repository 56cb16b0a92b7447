use Rattle.std.proofs.Common.{sym, ap, ◌∙◌}
use Rattle.cw_syntax.specs.declared.program.Expr.{out-Expr}
use Rattle.cw_syntax.specs.declared.program.Name.{Name}
use Rattle.cw_syntax.specs.declared.program.Op.TheVariants.{Call as CallOp}
use Rattle.cw_syntax.specs.Names.{text}
use Rattle.cw_scope.specs.Rules.{at_if, call_if, is_main}
use Rattle.cw_scope.proofs.Operators.{at_operator, isnt_if}
use Rattle.cw_scope.proofs.rules.main_call.Goals as goal

pub returns-in-Call : goal.returns-in-Call
returns-in-Call c =
    let source = c.args.source.now in
    let e = c.args.e.now in
    let test = λ (f : Name). is_main (text source f) in
    c.at_if.ensures ∙ ap (λ holds. at_if holds (out-Expr e).from) (c.is_main.ensures ∙ ap is_main c.text.ensures.bytes) ∙ sym (at_operator (call_if test) e (CallOp c.in-Call.name) c.in-Call.is)

pub returns-in_default : goal.returns-in_default
returns-in_default c =
    let source = c.args.source.now in
    let test = λ (f : Name). is_main (text source f) in
    sym (isnt_if test c.args.e.now c.in_default.not-Call)
