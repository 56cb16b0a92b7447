use Rattle.cw_product.specs.Product.{game_of}
use Rattle.cw_linked.specs.Edges.{AreReachedTo}
use Rattle.cw_linked.proofs.edges.flag_all.Given as goal

abbrev pub invariant-loop-p : goal.invariant-loop-p
invariant-loop-p l = AreReachedTo (game_of l.game) l.flags l.p 0
