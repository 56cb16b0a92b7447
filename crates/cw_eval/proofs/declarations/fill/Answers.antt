use Rattle.std.proofs.Common.{sym, ◌∙◌, arith, ℕ}
use Rattle.std.proofs.lemmas.Result.{err_from_is_err_and}
use Rattle.cw_syntax.specs.declared.program.Expr.{Expr}
use Rattle.cw_syntax.specs.Trees.{tree_of, trees_of}
use Rattle.cw_value.specs.Declarations.{filled}
use Rattle.cw_slots.specs.Shown.{location_in, scope_of}
use Rattle.cw_eval.specs.Parts.{listed_at}
use Rattle.cw_eval.specs.Shown.{memory_of}
use Rattle.cw_eval.proofs.Each.{halts_too}
use Rattle.cw_eval.proofs.Along.{all_done, step_stops}
use Rattle.cw_eval.proofs.Parts.{filled_along}
use Rattle.cw_eval.proofs.declarations.fill.Goals as goal

pub returns-in_err-fill_one : goal.returns-in_err-fill_one
returns-in_err-fill_one c =
    let s = scope_of c.args.scope.now in
    let p = location_in c.args.location in
    let one = λ (i : ℕ) (e : Expr). listed_at s p c.args.size i (tree_of e) in
    let xs = c.args.init.now in
    let x = c.index-init-i.result in
    let begun = memory_of c.args.m.now in
    let old = memory_of c.loop-i.m in
    let new = memory_of c.fill_one.new.m in
    let r = err_from_is_err_and c.from_residual.result c.from_residual.ensures.1 in
    rw (r.1, r.2)
    (halts_too c.in_err-fill_one.field-0.0 new (one c.loop-i.i x old) (filled s p c.args.size 0 (trees_of xs) begun)
    (λ why stopped. filled_along s p c.args.size 0 xs begun ∙ sym c.loop-i.invariant ∙ step_stops one xs c.loop-i.i old x why new c.loop-i-test.true c.index-init-i.is stopped)
    c.in_err-fill_one.ensures)

pub returns : goal.returns
returns c =
    let s = scope_of c.args.scope.now in
    let p = location_in c.args.location in
    let one = λ (i : ℕ) (e : Expr). listed_at s p c.args.size i (tree_of e) in
    filled_along s p c.args.size 0 c.args.init.now (memory_of c.args.m.now)
    ∙ sym c.loop-i.invariant
    ∙ all_done one c.args.init.now c.loop-i.i (memory_of c.loop-i.m) (omega arith)
