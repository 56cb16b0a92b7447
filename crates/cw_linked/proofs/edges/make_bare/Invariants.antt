use Rattle.cw_product.specs.Product.{game_of}
use Rattle.cw_linked.specs.Plain.{ArePlain}
use Rattle.cw_linked.proofs.edges.make_bare.Given as goal

abbrev pub invariant-loop-p : goal.invariant-loop-p
invariant-loop-p l = ArePlain (game_of l.game) 0 l.p l.plain.items
