use Rattle.std.proofs.Common.{◌≡◌, map, filter_map}
use Rattle.std.specs.List.{range_with_len}
use Rattle.cw_product.specs.Product.{game_of}
use Rattle.cw_solve.specs.Contexts.{returning}
use Rattle.cw_least_strategy.specs.Strategies.{back_at}
use Rattle.cw_least_strategy.specs.Acts.{key_of}
use Rattle.cw_least_strategy.proofs.acts.backs_at.Given as goal

abbrev pub invariant-loop-x : goal.invariant-loop-x
invariant-loop-x l = map (λ b. (b.0.0, b.1)) l.backs.items ≡ filter_map (back_at (game_of l.solved.game) (key_of l.key) (returning l.back.0 l.split)) (range_with_len 0 l.x)
