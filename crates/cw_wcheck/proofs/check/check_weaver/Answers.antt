-- A good table is closed, and a closed one sound.
use Rattle.cw_product.specs.Product.{game_of}
use Rattle.cw_game.specs.Reached.{Reached}
use Rattle.cw_game.proofs.Goods.{good_closed}
use Rattle.cw_wcheck.proofs.Sounds.{sound}
use Rattle.cw_wcheck.proofs.Lives.{none_fails}
use Rattle.cw_wcheck.proofs.check.check_weaver.Goals as goal

pub returns-in-None-clause-sound : goal.returns-in-None-clause-sound
returns-in-None-clause-sound c numbered p of short =
    let g = game_of c.args.game.now in
    let good = none_fails g c.args.cert.now c.first_fault.result c.first_fault.ensures c.in-None.is in
    sound (Reached g.policy g.spots g.states) p g c.args.cert.now of.policy of.states of.laid (good_closed g c.args.cert.now good) short
