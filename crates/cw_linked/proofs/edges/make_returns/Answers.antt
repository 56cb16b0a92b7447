use Rattle.std.proofs.Common.{arith}
use Rattle.cw_product.specs.Product.{game_of}
use Rattle.cw_linked.proofs.Edging.{all_returns_in}
use Rattle.cw_linked.proofs.edges.make_returns.Goals as goal

pub returns : goal.returns
returns c =
    all_returns_in (game_of c.args.game.now) c.loop-p.returns c.in_ok-rows.rows c.loop-p.p (omega (arith, c.positions-p-end.ensures, c.loop-p-test.false)) c.loop-p.invariant c.in_ok-rows.ensures
