use Rattle.std.proofs.Common.{◌≡◌, not, nat_eq, length, arith, sym, ap, ap₂, ◌∙◌}
use Rattle.cw_syntax.specs.declared.program.Expr.{out-Expr}
use Rattle.cw_syntax.specs.declared.program.Op.TheVariants.{Call as CallOp}
use Rattle.cw_syntax.specs.Trees.{file_of, trees_of, count}
use Rattle.cw_scope.specs.Rules.{at_if, defined, miscounted, wrong_arity}
use Rattle.cw_scope.proofs.Operators.{at_operator, isnt_wrong, counted}
use Rattle.cw_scope.proofs.rules.wrong_arity.Goals as goal

pub returns-in-None : goal.returns-in-None
returns-in-None c =
    let source = c.args.known.now.source.now in
    let file = file_of c.args.known.now.program.now in
    let e = c.args.e.now in
    let o = out-Expr e in
    let is = c.in-None.ensures ∙ ap (defined source file) c.text.ensures.bytes in
    ap (λ d. miscounted d (count (trees_of o.parts.items)) o.from) is ∙ sym (at_operator (wrong_arity source file) e (CallOp c.in-Call.name) c.in-Call.is)

pub returns-in-Some : goal.returns-in-Some
returns-in-Some c =
    let source = c.args.known.now.source.now in
    let file = file_of c.args.known.now.program.now in
    let e = c.args.e.now in
    let o = out-Expr e in
    let params = c.in-Some.function.now.params in
    let is = c.in-Some.ensures ∙ ap (defined source file) c.text.ensures.bytes in
    let n : c.len.result ≡ length o.parts.items = omega (arith, o.parts.ok.0) in
    let m : c.len-in-Some.result ≡ length params.items = omega (arith, params.ok.0) in
    c.at_if.ensures
    ∙ ap₂ (λ n m. at_if (not (nat_eq n m)) o.from) (n ∙ sym (counted o.parts.items)) m
    ∙ ap (λ d. miscounted d (count (trees_of o.parts.items)) o.from) is
    ∙ sym (at_operator (wrong_arity source file) e (CallOp c.in-Call.name) c.in-Call.is)

pub returns-in_default : goal.returns-in_default
returns-in_default c = sym (isnt_wrong c.args.known.now.source.now (file_of c.args.known.now.program.now) c.args.e.now c.in_default.not-Call)
