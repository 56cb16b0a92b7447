use Rattle.std.proofs.Common.{◌≡◌, ℕ, nat_lt, ◌&&◌}
use Rattle.cw_core.specs.StateSet.{has}
use Rattle.cw_game.specs.Pairs.{kept_at}
use Rattle.cw_product.specs.Product.{game_of}
use Rattle.cw_solve.specs.Contexts.{promise_at}
use Rattle.cw_solve.proofs.table.promised.Given as goal

abbrev pub invariant-loop-x : goal.invariant-loop-x
invariant-loop-x l = (x : ℕ) → has l.set x ≡ (nat_lt x l.x && promise_at (game_of l.game) l.n l.back.0 (kept_at l.split l.call.0) l.at.context.promise x)
