use Rattle.std.proofs.Common.{sym}
use Rattle.cw_product.specs.Product.{game_of}
use Rattle.cw_solve.specs.Numbering.{IsUnder}
use Rattle.cw_lazy_table.proofs.Numbering.{read_at}
use Rattle.cw_lazy_table.proofs.follow.put_going_on.Goals as goal

pub is_lost-requires-clause-there : goal.is_lost-requires-clause-there
is_lost-requires-clause-there c =
    read_at (IsUnder (game_of c.args.game.now) c.in-Some.pos.0) c.args.promises.now c.args.key.now.promise c.index-promises-key.result c.requires.within c.index-promises-key.is
    (c.requires.there (c.in-Some.pos.0, c.in-Some.state.0) (sym c.in-Some.ensures.is))
