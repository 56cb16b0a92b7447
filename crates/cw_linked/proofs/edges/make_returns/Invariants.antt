use Rattle.cw_product.specs.Product.{game_of}
use Rattle.cw_linked.specs.Edges.{AreReturnsTo}
use Rattle.cw_linked.proofs.edges.make_returns.Given as goal

abbrev pub invariant-loop-p : goal.invariant-loop-p
invariant-loop-p l = AreReturnsTo (game_of l.game) l.returns l.p
