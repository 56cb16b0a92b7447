-- The rows so far have no condition fail.
use Rattle.std.proofs.Common.{option_map, sym, ap, ◌∙◌}
use Rattle.cw_product.specs.Product.{game_of}
use Rattle.cw_wcheck.specs.Checking.{numbered}
use Rattle.cw_wcheck.proofs.Lives.{found, passed}
use Rattle.cw_wcheck.proofs.check.row_fault.Goals as goal

pub loop-i-preserved : goal.loop-i-preserved
loop-i-preserved c =
    c.loop-i.invariant
    ∙ passed (game_of c.args.game.now) c.args.cert.now c.live-rows.result.now c.loop-i.i _ _ c.live-rows.ensures c.loop-i-test.true c.failing_condition.ensures c.in_default.is

pub returns-in-Some : goal.returns-in-Some
returns-in-Some c =
    sym (ap (option_map numbered) (c.loop-i.invariant
    ∙ found (game_of c.args.game.now) c.args.cert.now c.live-rows.result.now c.loop-i.i _ _ c.in-Some.condition c.live-rows.ensures c.loop-i-test.true c.failing_condition.ensures c.in-Some.is))
