use Rattle.std.proofs.Common.{◌≡◌, ℕ, None}
use Rattle.cw_product.specs.Product.{game_of}
use Rattle.cw_audit_check.proofs.Orders.{PairsFrom}
use Rattle.cw_audit_check.proofs.ranges.first_bad_pair.Given as goal

abbrev pub invariant-loop-number : goal.invariant-loop-number
invariant-loop-number l = (i : ℕ) → PairsFrom (game_of l.game) l.function i l.rows None 0 ≡ PairsFrom (game_of l.game) l.function i l.rows l.last l.number
