-- The live rows of a position are one part of the list.
use Rattle.std.proofs.Common.{sym}
use Rattle.cw_product.specs.Product.{game_of}
use Rattle.cw_wcheck.specs.Working.{called_of}
use Rattle.cw_wcheck.proofs.Judged.{all_return_is}
use Rattle.cw_wcheck.proofs.calls.all_return.Goals as goal

pub returns-in-Some : goal.returns-in-Some
returns-in-Some c =
    all_return_is (game_of c.args.game.now) c.args.cert.now c.args.row.now.state.0 c.args.row.now.mem.0 c.args.row.now.promise.now (called_of c.args.call) c.in-Some.promise.now c.exit_of.result.0 _ _ _
    (sym (rw c.in-Some.is at c.promise_of.ensures)) c.exit_of.ensures c.ends_near-ends.ensures c.each_returns.ensures
