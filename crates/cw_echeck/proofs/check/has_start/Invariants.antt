use Rattle.std.proofs.Common.{◌≡◌, false, take}
use Rattle.std.specs.List.{list_any}
use Rattle.cw_certs.specs.declared.strategy.EnvRow.{EnvRow}
use Rattle.cw_certs.specs.Strategies.{row_of}
use Rattle.cw_game.specs.Conditions.{is_start}
use Rattle.cw_product.specs.Product.{game_of}
use Rattle.cw_echeck.proofs.check.has_start.Given as goal

abbrev pub invariant-loop-row : goal.invariant-loop-row
invariant-loop-row l = list_any (λ (r : EnvRow). is_start (game_of l.game) (row_of r)) (take l.row-index l.cert.rows.items) ≡ false
