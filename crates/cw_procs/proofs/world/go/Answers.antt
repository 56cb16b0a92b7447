use Rattle.cw_product.specs.Product.{game_of}
use Rattle.cw_procs.proofs.world.go.Goals as goal

pub returns-clause-links : goal.returns-clause-links
returns-clause-links g c = c.follow-calls.ensures.all (game_of c.args.game.now) c.requires.next c.requires.links
