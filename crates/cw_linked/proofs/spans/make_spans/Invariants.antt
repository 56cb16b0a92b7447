use Rattle.std.proofs.Common.{◌≡◌, length}
use Rattle.cw_product.specs.Product.{game_of}
use Rattle.cw_linked.specs.Spans.{AreSpanned}
use Rattle.cw_linked.proofs.spans.make_spans.Given as goal

abbrev pub invariant-loop-f : goal.invariant-loop-f
invariant-loop-f l = record {
  long : length l.spans.items ≡ l.f;
  are : AreSpanned (game_of l.game) l.spans.items;
}
