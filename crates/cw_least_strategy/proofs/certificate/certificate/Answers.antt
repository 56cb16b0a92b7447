use Rattle.std.proofs.Common.{◌≤◌, Some, length, map, sym, ap, ◌∙◌, arith}
use Rattle.cw_certs.specs.Strategies.{Row, row_of}
use Rattle.cw_least_strategy.proofs.Parts.{row_more, strategy_is}
use Rattle.cw_least_strategy.proofs.certificate.certificate.Goals as goal

pub loop-number-preserved : goal.loop-number-preserved
loop-number-preserved c =
    ap (map row_of) c.in_ok-push.ensures.items
    ∙ row_more c.args.strategy.now.rows c.loop-number.rows.items c.in_ok-row.row c.loop-number.number c.loop-number.invariant (c.row.ensures ∙ ap (λ (r : Row). Some r) (sym c.in_ok-row.ensures))

pub returns : goal.returns
returns c =
    let n = c.count-number-end.ensures in
    let le : length c.args.strategy.now.rows ≤ c.loop-number.number = omega (arith, n, c.loop-number-test.false) in
    strategy_is c.args.strategy.now c.states.result c.loop-number.rows.items c.loop-number.number c.states.ensures le c.loop-number.invariant
