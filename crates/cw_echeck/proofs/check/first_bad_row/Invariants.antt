use Rattle.std.proofs.Common.{◌≡◌}
use Rattle.cw_certs.specs.Strategies.{strategy_of}
use Rattle.cw_product.specs.Product.{game_of}
use Rattle.cw_echeck.proofs.Checks.{From}
use Rattle.cw_echeck.proofs.check.first_bad_row.Given as goal

abbrev pub invariant-loop-number : goal.invariant-loop-number
invariant-loop-number l =
    From (game_of l.game) (strategy_of l.cert) l.cert.rows.items 0 ≡ From (game_of l.game) (strategy_of l.cert) l.cert.rows.items l.number
