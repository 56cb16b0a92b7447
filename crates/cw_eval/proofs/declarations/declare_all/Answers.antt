use Rattle.std.proofs.Common.{sym, ◌∙◌, arith, ℕ, map}
use Rattle.std.proofs.lemmas.Result.{err_from_is_err_and}
use Rattle.cw_syntax.specs.declared.program.Item.{Item}
use Rattle.cw_syntax.specs.Trees.{declared_of}
use Rattle.cw_value.specs.Declarations.{declares_all}
use Rattle.cw_slots.specs.Shown.{scope_of}
use Rattle.cw_eval.specs.Parts.{declared_one}
use Rattle.cw_eval.specs.Shown.{memory_of}
use Rattle.cw_eval.proofs.Each.{halts_too}
use Rattle.cw_eval.proofs.Along.{all_done, step_stops}
use Rattle.cw_eval.proofs.Parts.{declares_along}
use Rattle.cw_eval.proofs.declarations.declare_all.Goals as goal

pub returns-in_err-declare_one : goal.returns-in_err-declare_one
returns-in_err-declare_one c =
    let s = scope_of c.args.scope.now in
    let one = λ (i : ℕ) (d : Item). declared_one s (declared_of d) in
    let xs = c.args.items.now in
    let x = c.item-item.result in
    let begun = memory_of c.args.m.now in
    let old = memory_of c.loop-item.m in
    let new = memory_of c.declare_one.new.m in
    let r = err_from_is_err_and c.from_residual.result c.from_residual.ensures.1 in
    rw (r.1, r.2)
    (halts_too c.in_err-declare_one.field-0.0 new (one c.loop-item.item-index x old) (declares_all s (map declared_of xs) begun)
    (λ why stopped. declares_along s 0 xs begun ∙ sym c.loop-item.invariant ∙ step_stops one xs c.loop-item.item-index old x why new c.loop-item-test.true c.item-item.is stopped)
    c.in_err-declare_one.ensures)

pub returns : goal.returns
returns c =
    let s = scope_of c.args.scope.now in
    let one = λ (i : ℕ) (d : Item). declared_one s (declared_of d) in
    declares_along s 0 c.args.items.now (memory_of c.args.m.now)
    ∙ sym c.loop-item.invariant
    ∙ all_done one c.args.items.now c.loop-item.item-index (memory_of c.loop-item.m) (omega arith)
