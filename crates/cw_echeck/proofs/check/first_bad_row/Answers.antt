use Rattle.std.proofs.Common.{◌∙◌, sym, ap}
use Rattle.cw_certs.specs.Strategies.{strategy_of}
use Rattle.cw_game.specs.Conditions.{first_failing}
use Rattle.cw_product.specs.Product.{game_of}
use Rattle.cw_echeck.proofs.Checks.{conditions_at, from_next, from_here}
use Rattle.cw_echeck.proofs.check.first_bad_row.Goals as goal

pub returns-in-Some : goal.returns-in-Some
returns-in-Some c =
    let g = game_of c.args.game.now in
    let s = strategy_of c.args.cert.now in
    let rows = c.args.cert.now.rows.items in
    let i = c.loop-number.number in
    sym (from_here g s rows i c.row-item.result c.in-Some.condition (rw c.deref-row-items.ensures.value at c.loop-number-test.true)
    (ap (λ r. first_failing (conditions_at g s rows i r)) (sym (rw c.deref-row-items.ensures.value at c.row-item.is))
    ∙ sym c.in-Some.ensures) c.loop-number.invariant)

pub loop-number-preserved : goal.loop-number-preserved
loop-number-preserved c =
    let g = game_of c.args.game.now in
    let s = strategy_of c.args.cert.now in
    let rows = c.args.cert.now.rows.items in
    let i = c.loop-number.number in
    from_next g s rows i c.row-item.result (rw c.deref-row-items.ensures.value at c.loop-number-test.true)
    (ap (λ r. first_failing (conditions_at g s rows i r)) (sym (rw c.deref-row-items.ensures.value at c.row-item.is))
    ∙ sym c.in_default.ensures) c.loop-number.invariant
