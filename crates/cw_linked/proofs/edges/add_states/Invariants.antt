use Rattle.cw_product.specs.Product.{game_of}
use Rattle.cw_linked.specs.Edges.{AreChangesTo}
use Rattle.cw_linked.proofs.edges.add_states.Given as goal

abbrev pub invariant-loop-q : goal.invariant-loop-q
invariant-loop-q l = AreChangesTo (game_of l.game) l.flags l.pairs l.pos.0 l.q
