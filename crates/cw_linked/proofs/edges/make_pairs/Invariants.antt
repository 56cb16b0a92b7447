use Rattle.cw_product.specs.Product.{game_of}
use Rattle.cw_linked.specs.Edges.{AreChangesTo}
use Rattle.cw_linked.specs.Grants.{AreAllGrants}
use Rattle.cw_linked.proofs.edges.make_pairs.Given as goal

abbrev pub invariant-loop-p : goal.invariant-loop-p
invariant-loop-p l = record {
  pairs : AreChangesTo (game_of l.game) l.flags l.pairs l.p 0;
  grants : AreAllGrants (game_of l.game) l.grants.items;
}
