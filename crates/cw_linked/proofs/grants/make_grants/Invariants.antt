use Rattle.std.proofs.Common.{◌≡◌, length}
use Rattle.cw_product.specs.Product.{game_of}
use Rattle.cw_linked.specs.Grants.{AreGrantsTo}
use Rattle.cw_linked.proofs.grants.make_grants.Given as goal

abbrev pub invariant-loop-q : goal.invariant-loop-q
invariant-loop-q l = record {
  long : length l.to.items ≡ l.q;
  are : AreGrantsTo (game_of l.game) l.prim l.to.items;
}
