use Rattle.cw_lazy_table.specs.Numbered.{whole}
use Rattle.cw_lazy_table.specs.SeamKeys.{key_of}
use Rattle.cw_lazy_table.proofs.Following.{position, state}
use Rattle.cw_lazy_table.proofs.lists.refused.Goals as goal

pub next-requires-clause-position : goal.next-requires-clause-position
next-requires-clause-position c = position c.args.game.now c.args.solved.now (whole c.args.promises.now (key_of c.args.seam_key.now)) c.requires.can.can

pub next-requires-clause-state : goal.next-requires-clause-state
next-requires-clause-state c = state c.args.game.now c.args.solved.now (whole c.args.promises.now (key_of c.args.seam_key.now)) c.requires.can.can
