use Rattle.cw_lazy_table.specs.Numbered.{whole}
use Rattle.cw_product.specs.Product.{game_of}
use Rattle.cw_solve.specs.Numbering.{IsUnder}
use Rattle.cw_lazy_table.proofs.Numbering.{read_at}
use Rattle.cw_lazy_table.proofs.Following.{position, state, back_there}
use Rattle.cw_lazy_table.proofs.follow.set_of.Goals as goal

pub turn-requires : goal.turn-requires
turn-requires c = position c.args.game.now c.args.solved.now (whole c.args.promises.now c.args.key.now) c.requires.can.can

pub promised-requires-clause-there : goal.promised-requires-clause-there
promised-requires-clause-there c =
    read_at (IsUnder (game_of c.args.game.now) c.in-Call.back.0) c.args.promises.now c.args.key.now.promise c.index-promises-key.result c.requires.can.within c.index-promises-key.is
    (back_there c.args.game.now c.args.solved.now (whole c.args.promises.now c.args.key.now) c.requires.can.can c.in-Call.callee c.in-Call.split c.in-Call.back c.in-Call.ensures)

pub promised-requires-clause-state : goal.promised-requires-clause-state
promised-requires-clause-state c = state c.args.game.now c.args.solved.now (whole c.args.promises.now c.args.key.now) c.requires.can.can
