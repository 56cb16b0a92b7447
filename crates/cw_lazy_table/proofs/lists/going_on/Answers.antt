use Rattle.cw_lazy_table.specs.Numbered.{whole}
use Rattle.std.proofs.Common.{sym}
use Rattle.cw_lazy_table.specs.SeamKeys.{key_of}
use Rattle.cw_product.specs.Product.{game_of}
use Rattle.cw_solve.specs.Numbering.{IsUnder}
use Rattle.cw_lazy_table.proofs.Numbering.{read_at}
use Rattle.cw_lazy_table.proofs.Following.{position, state, on_there}
use Rattle.cw_lazy_table.proofs.lists.going_on.Goals as goal

pub resumed-requires-clause-position : goal.resumed-requires-clause-position
resumed-requires-clause-position c = position c.args.game.now c.args.solved.now (whole c.args.promises.now (key_of c.args.seam_key.now)) c.requires.can.can

pub resumed-requires-clause-state : goal.resumed-requires-clause-state
resumed-requires-clause-state c = state c.args.game.now c.args.solved.now (whole c.args.promises.now (key_of c.args.seam_key.now)) c.requires.can.can

pub is_lost-requires-clause-there : goal.is_lost-requires-clause-there
is_lost-requires-clause-there c =
    read_at (IsUnder (game_of c.args.game.now) c.in-Some.pos.0) c.args.promises.now c.args.seam_key.now.promise c.index-promises-seam_key.result c.requires.can.within c.index-promises-seam_key.is
    (on_there c.args.game.now c.args.solved.now (whole c.args.promises.now (key_of c.args.seam_key.now)) c.requires.can.can (c.in-Some.pos.0, c.in-Some.state.0) (sym c.in-Some.ensures.is))
