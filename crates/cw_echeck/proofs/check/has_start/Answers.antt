use Rattle.std.proofs.Common.{◌∙◌, sym, ap}
use Rattle.cw_certs.specs.Strategies.{row_of}
use Rattle.cw_game.specs.Conditions.{is_start}
use Rattle.cw_product.specs.Product.{game_of}
use Rattle.cw_echeck.proofs.Checks.{any_here, any_none}
use Rattle.cw_echeck.proofs.check.has_start.Goals as goal

pub returns-then-is_start : goal.returns-then-is_start
returns-then-is_start c =
    let test = is_start (game_of c.args.game.now) in
    rw (← c.deref-row-items.ensures.value)
    (sym (any_here test row_of c.deref-row-items.result.now c.loop-row.row-index c.row-item.result c.loop-row-test.true
    (ap (λ r. test (row_of r)) (sym c.row-item.is) ∙ sym c.if-is_start.ensures)))

pub returns : goal.returns
returns c =
    sym (any_none (is_start (game_of c.args.game.now)) row_of c.args.cert.now.rows.items c.loop-row.row-index
    (rw c.deref-row-items.ensures.value at c.loop-row-test.false) c.loop-row.invariant)
