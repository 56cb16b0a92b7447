use Rattle.std.proofs.Common.{sym, ◌∙◌, arith}
use Rattle.std.proofs.lemmas.Result.{err_from_is_err_and}
use Rattle.cw_syntax.specs.declared.program.Expr.{Expr}
use Rattle.cw_syntax.specs.Trees.{tree_of, trees_of}
use Rattle.cw_value.specs.Expressions.{value}
use Rattle.cw_value.specs.Deeds.{values}
use Rattle.cw_slots.specs.Shown.{scope_of}
use Rattle.cw_eval.specs.Shown.{memory_of}
use Rattle.cw_eval.proofs.Each.{halts_too, none_left, one_stops}
use Rattle.cw_eval.proofs.Parts.{values_each}
use Rattle.cw_eval.proofs.deeds.values.Goals as goal

pub returns-in_err-value : goal.returns-in_err-value
returns-in_err-value c =
    let s = scope_of c.args.scope.now in
    let one = λ (e : Expr). value s (tree_of e) in
    let xs = c.args.parts.now in
    let i = c.loop-e.e-index in
    let x = c.e-item.result in
    let begun = memory_of c.args.m.now in
    let old = memory_of c.loop-e.m in
    let new = memory_of c.value.new.m in
    let p = err_from_is_err_and c.from_residual.result c.from_residual.ensures.1 in
    rw (p.1, p.2)
    (halts_too c.in_err-value.field-0.0 new (one x old) (values s (trees_of xs) begun)
    (λ why stopped. values_each s xs begun ∙ sym c.loop-e.invariant ∙ one_stops one xs i c.loop-e.values.items old x why new c.loop-e-test.true c.e-item.is stopped)
    c.in_err-value.ensures)

pub returns : goal.returns
returns c =
    let s = scope_of c.args.scope.now in
    let one = λ (e : Expr). value s (tree_of e) in
    values_each s c.args.parts.now (memory_of c.args.m.now)
    ∙ sym c.loop-e.invariant
    ∙ none_left one c.args.parts.now c.loop-e.e-index c.loop-e.values.items (memory_of c.loop-e.m) (omega arith)
