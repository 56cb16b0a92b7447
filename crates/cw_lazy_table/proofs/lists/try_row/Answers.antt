use Rattle.cw_lazy_table.specs.Numbered.{whole}
use Rattle.cw_lazy_table.specs.SeamKeys.{key_of}
use Rattle.cw_lazy_table.proofs.Following.{position, state}
use Rattle.cw_lazy_table.proofs.lists.try_row.Goals as goal

pub after-requires-clause-position : goal.after-requires-clause-position
after-requires-clause-position c = position c.args.game.now c.args.solved.now (whole c.args.promises.now (key_of c.args.seam_key.now)) c.requires.can.can

pub after-requires-clause-state : goal.after-requires-clause-state
after-requires-clause-state c = state c.args.game.now c.args.solved.now (whole c.args.promises.now (key_of c.args.seam_key.now)) c.requires.can.can
