use Rattle.std.proofs.Common.{◌≡◌, ◌+◌, map, take, length}
use Rattle.std.specs.Prelude.{sum_by}
use Rattle.cw_certs.specs.Strategies.{how_of}
use Rattle.cw_product.specs.Product.{game_of}
use Rattle.cw_least_strategy.specs.Parts.{how_in}
use Rattle.cw_least_strategy.specs.Small.{backs_for}
use Rattle.cw_least_strategy.proofs.rows.hows_within.Given as goal

abbrev pub invariant-loop-key : goal.invariant-loop-key
invariant-loop-key l = record {
  place : l.index ≡ l.key-index;
  hows : map how_of l.hows.items ≡ map (how_in (game_of l.solved.game) l.aims l.keys) (take l.key-index l.keys);
  left : l.left + (length l.keys + sum_by (backs_for (game_of l.solved.game) l.aims l.keys) (take l.key-index l.keys)) ≡ 65536;
}
