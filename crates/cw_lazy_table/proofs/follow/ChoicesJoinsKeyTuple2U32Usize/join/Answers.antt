use Rattle.cw_lazy_table.specs.Numbered.{whole}
use Rattle.cw_lazy_table.proofs.Numbering.{can_ask}
use Rattle.cw_lazy_table.proofs.Following.{position, state}
use Rattle.cw_lazy_table.proofs.follow.ChoicesJoinsKeyTuple2U32Usize.join.Goals as goal

pub returned-requires-clause-position : goal.returned-requires-clause-position
returned-requires-clause-position c =
    position c.args.self.now.game.now c.args.self.now.solved.now (whole c.args.self.now.promises.now c.args.waiting)
    (can_ask c.args.self.now.game.now c.args.self.now.solved.now c.args.self.now.promises.now c.args.waiting c.requires.waiting).can

pub returned-requires-clause-state : goal.returned-requires-clause-state
returned-requires-clause-state c =
    state c.args.self.now.game.now c.args.self.now.solved.now (whole c.args.self.now.promises.now c.args.waiting)
    (can_ask c.args.self.now.game.now c.args.self.now.solved.now c.args.self.now.promises.now c.args.waiting c.requires.waiting).can

pub returned-requires-clause-exit : goal.returned-requires-clause-exit
returned-requires-clause-exit c =
    state c.args.self.now.game.now c.args.self.now.solved.now (whole c.args.self.now.promises.now c.args.ending)
    (can_ask c.args.self.now.game.now c.args.self.now.solved.now c.args.self.now.promises.now c.args.ending c.requires.ending).can
