-- No row so far has a condition fail.
use Rattle.std.proofs.Common.{◌≡◌}
use Rattle.cw_product.specs.Product.{game_of}
use Rattle.cw_wcheck.proofs.Lives.{fails_from}
use Rattle.cw_wcheck.proofs.check.row_fault.Given as goal

abbrev pub invariant-loop-i : goal.invariant-loop-i
invariant-loop-i l = fails_from (game_of l.game) l.cert 0 ≡ fails_from (game_of l.game) l.cert l.i
