use Rattle.std.proofs.Common.{◌∙◌, sym, arith}
use Rattle.cw_product.specs.Product.{game_of}
use Rattle.cw_audit_check.proofs.Orders.{no_row, pair_next, pair_here, pair_end}
use Rattle.cw_audit_check.proofs.ranges.first_bad_pair.Goals as goal

pub returns-then-not-is_next_pair : goal.returns-then-not-is_next_pair
returns-then-not-is_next_pair c = λ i.
    sym (c.loop-number.invariant i
    ∙ pair_here (game_of c.args.game.now) c.args.function i c.args.rows.now c.loop-number.last c.loop-number.number no_row c.loop-number-test.true
    (sym c.is_next_pair.ensures ∙ c.if-not-is_next_pair.true))

pub loop-number-preserved : goal.loop-number-preserved
loop-number-preserved c = λ i.
    c.loop-number.invariant i
    ∙ pair_next (game_of c.args.game.now) c.args.function i c.args.rows.now c.loop-number.last c.loop-number.number no_row c.loop-number-test.true
    (sym c.is_next_pair.ensures ∙ c.if-not-is_next_pair.false)

pub returns : goal.returns
returns c = λ i.
    sym (c.loop-number.invariant i ∙ pair_end (game_of c.args.game.now) c.args.function i c.args.rows.now c.loop-number.last c.loop-number.number (omega arith))
