use Rattle.std.proofs.Common.{arith}
use Rattle.cw_product.specs.Product.{game_of}
use Rattle.cw_linked.proofs.Telling.{implied_taken}
use Rattle.cw_linked.proofs.implied.ask_implied.Goals as goal

pub returns : goal.returns
returns c =
    implied_taken (game_of c.args.game.now) c.args.work.now c.requires.long c.requires.high c.requires.right c.args.at.now c.args.pos.0 c.args.state.0
    c.height_in-height.result c.height_in-height.ensures.is (omega (arith, c.if-height-eq0.false))
