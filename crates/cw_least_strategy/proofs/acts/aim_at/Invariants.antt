use Rattle.std.proofs.Common.{◌≡◌, ℕ, nat_lt, ◌&&◌}
use Rattle.cw_core.specs.StateSet.{has}
use Rattle.cw_product.specs.Product.{game_of}
use Rattle.cw_solve.specs.Contexts.{returning}
use Rattle.cw_least_strategy.specs.Strategies.{is_lost_after}
use Rattle.cw_least_strategy.specs.Acts.{key_of}
use Rattle.cw_least_strategy.proofs.acts.aim_at.Given as goal

abbrev pub invariant-loop-x : goal.invariant-loop-x
invariant-loop-x l = (x : ℕ) → has l.aim x ≡ (nat_lt x l.x && is_lost_after (game_of l.solved.game) (key_of l.key) (returning l.back.0 l.split) x)
