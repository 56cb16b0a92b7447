use Rattle.cw_product.specs.Product.{game_of}
use Rattle.cw_audit_check.proofs.walk.enter.Goals as goal

pub returns-clause-walk : goal.returns-clause-walk
returns-clause-walk c =
    record {
      pos = c.skipped-entry.ensures.within;
      state = c.requires.walk.state;
      waits = c.in_ok-remember.ensures.all (game_of c.args.game.now) c.requires.walk.waits (c.requires.back, c.requires.walk.state);
    }
