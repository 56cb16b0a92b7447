use Rattle.cw_product.specs.Product.{game_of}
use Rattle.cw_linked.specs.Edges.{AreSourcesTo}
use Rattle.cw_linked.proofs.edges.make_sources.Given as goal

abbrev pub invariant-loop-p : goal.invariant-loop-p
invariant-loop-p l = AreSourcesTo (game_of l.game) l.sources l.p
