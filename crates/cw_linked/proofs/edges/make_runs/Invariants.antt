use Rattle.std.proofs.Common.{◌≡◌, length}
use Rattle.cw_product.specs.Product.{game_of}
use Rattle.cw_linked.specs.Runs.{AreRunsOf}
use Rattle.cw_linked.proofs.edges.make_runs.Given as goal

abbrev pub invariant-loop-f : goal.invariant-loop-f
invariant-loop-f l = record {
  long : length l.runs.items ≡ l.f;
  are : AreRunsOf (game_of l.game) l.runs.items;
}
