use Rattle.std.proofs.Common.{◌-◌, length}
use Rattle.cw_product.specs.Product.{game_of}
use Rattle.cw_run.proofs.walk.+rest.Given as goal

abbrev pub decreases-rest : goal.decreases-rest
decreases-rest l = length (game_of l.game.now).spots - l.pos.0
