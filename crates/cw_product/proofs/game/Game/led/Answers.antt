use Rattle.cw_product.specs.Product.{game_of}
use Rattle.cw_product.proofs.game.Game.led.Goals as goal

pub returns-in-Visit : goal.returns-in-Visit
returns-in-Visit c = rw c.in-Visit.is (c.visited.ensures (game_of c.args.self.now))

pub returns-in-Step : goal.returns-in-Step
returns-in-Step c = rw c.in-Step.is (c.gone_on.ensures (game_of c.args.self.now))

pub returns-in-Branch : goal.returns-in-Branch
returns-in-Branch c = rw c.in-Branch.is (c.branched.ensures (game_of c.args.self.now))
