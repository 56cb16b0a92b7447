use Rattle.cw_certs.specs.Strategies.{strategy_of}
use Rattle.cw_product.specs.Product.{game_of}
use Rattle.cw_play.proofs.FirstRow.{NoneBelow}
use Rattle.cw_play.proofs.start.start_row.Given as goal

abbrev pub invariant-loop-number : goal.invariant-loop-number
invariant-loop-number l = NoneBelow (game_of l.game) (strategy_of l.cert).rows l.number
