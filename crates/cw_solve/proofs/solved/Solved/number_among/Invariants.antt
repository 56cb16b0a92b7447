use Rattle.std.proofs.Common.{◌≡◌, ℕ, ◌<◌, false, slice_get}
use Rattle.cw_product.specs.Product.{game_of}
use Rattle.cw_solve.specs.Numbering.{has_position}
use Rattle.cw_solve.proofs.solved.Solved.number_among.Given as goal

abbrev pub invariant-loop-number : goal.invariant-loop-number
invariant-loop-number l = (i : ℕ) → i < l.number → has_position (game_of l.self.game) l.pos.0 l.promise (slice_get l.self.contexts i) ≡ false
