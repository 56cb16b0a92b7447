use Rattle.cw_product.specs.Product.{game_of}
use Rattle.cw_audit_check.proofs.walk.leave.Goals as goal

pub returned-walk-requires-clause-call : goal.returned-walk-requires-clause-call
returned-walk-requires-clause-call c = (c.in-Some.ensures.wait (game_of c.args.game.now) c.requires.walk.waits).1

pub skipped-walk-requires : goal.skipped-walk-requires
skipped-walk-requires c = (c.in-Some.ensures.wait (game_of c.args.game.now) c.requires.walk.waits).0

pub returns-in-None-clause-walk : goal.returns-in-None-clause-walk
returns-in-None-clause-walk c =
    record { pos = c.requires.walk.pos; state = c.requires.walk.state; waits = c.in-None.ensures.all (game_of c.args.game.now) c.requires.walk.waits }

pub returns-in-Some-clause-walk : goal.returns-in-Some-clause-walk
returns-in-Some-clause-walk c =
    record { pos = c.skipped-walk.ensures.within; state = c.returned-walk.ensures.within; waits = c.in-Some.ensures.all (game_of c.args.game.now) c.requires.walk.waits }
