use Rattle.std.proofs.Common.{sym, ap, ◌∙◌, not}
use Rattle.cw_syntax.specs.declared.program.Expr.{out-Expr}
use Rattle.cw_syntax.specs.declared.program.Name.{Name}
use Rattle.cw_syntax.specs.declared.program.Op.TheVariants.{Call as CallOp}
use Rattle.cw_syntax.specs.Names.{text}
use Rattle.cw_syntax.specs.Trees.{file_of}
use Rattle.cw_scope.specs.Rules.{at_if, call_if, is_defined}
use Rattle.cw_scope.proofs.Operators.{at_operator, isnt_if}
use Rattle.cw_scope.proofs.rules.external_call.Goals as goal

pub returns-in-Call : goal.returns-in-Call
returns-in-Call c =
    let source = c.args.known.now.source.now in
    let file = file_of c.args.known.now.program.now in
    let e = c.args.e.now in
    let test = λ (f : Name). not (is_defined source file (text source f)) in
    c.at_if.ensures ∙ ap (λ holds. at_if holds (out-Expr e).from) (ap not c.is_defined.ensures) ∙ sym (at_operator (call_if test) e (CallOp c.in-Call.name) c.in-Call.is)

pub returns-in_default : goal.returns-in_default
returns-in_default c =
    let source = c.args.known.now.source.now in
    let file = file_of c.args.known.now.program.now in
    let test = λ (f : Name). not (is_defined source file (text source f)) in
    sym (isnt_if test c.args.e.now c.in_default.not-Call)
