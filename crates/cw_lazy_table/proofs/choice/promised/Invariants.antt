use Rattle.std.proofs.Common.{◌≡◌, ℕ, nat_lt, ◌&&◌}
use Rattle.cw_core.specs.StateSet.{has}
use Rattle.cw_product.specs.Product.{game_of}
use Rattle.cw_solve.specs.Contexts.{returning}
use Rattle.cw_lazy_table.specs.Choices.{is_kept_back}
use Rattle.cw_lazy_table.proofs.choice.promised.Given as goal

abbrev pub invariant-loop-x : goal.invariant-loop-x
invariant-loop-x l = (x : ℕ) → has l.set x ≡ (nat_lt x l.x && is_kept_back (game_of l.game) l.call.0 l.promise (returning l.back.0 l.split) x)
