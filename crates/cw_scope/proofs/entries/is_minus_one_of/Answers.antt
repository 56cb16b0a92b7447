use Rattle.std.proofs.Common.{◌≡◌, ◌≢◌, ◌&&◌, length, sym, ap, ◌∙◌, arith}
use Rattle.cw_syntax.specs.declared.program.Expr.{out-Expr}
use Rattle.cw_scope.specs.Descriptors.{is_number}
use Rattle.cw_scope.proofs.Starting.{minus_one_of, not_one}
use Rattle.cw_scope.proofs.entries.is_minus_one_of.Goals as goal

pub returns-then-is_minus : goal.returns-then-is_minus
returns-then-is_minus c = λ from to.
    let x = c.operand-item.result in
    let n : length c.args.parts.now ≡ 1 = omega arith in
    c.is_number.ensures
    ∙ ap (λ b. b && is_number 1 (out-Expr x).op) (sym c.if-is_minus.true ∙ c.is_minus.ensures)
    ∙ sym (minus_one_of c.args.op c.args.parts.now x from to n c.operand-item.is)

pub returns-in-len2-up : goal.returns-in-len2-up
returns-in-len2-up c = λ from to.
    let n : length c.args.parts.now ≢ 1 = λ e. absurd (omega arith) in
    sym (not_one c.args.op c.args.parts.now from to n)
