use Rattle.std.proofs.Common.{arith}
use Rattle.cw_product.specs.Product.{game_of}
use Rattle.cw_linked.proofs.Reaching.{all_flagged}
use Rattle.cw_linked.proofs.edges.flag_all.Goals as goal

pub returns : goal.returns
returns c = all_flagged (game_of c.args.game.now) c.loop-p.flags c.loop-p.p (omega (arith, c.positions-p-end.ensures, c.loop-p-test.false)) c.loop-p.invariant
