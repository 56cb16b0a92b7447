use Rattle.cw_lazy_table.proofs.Looking.{under}
use Rattle.cw_lazy_table.proofs.choice.is_lost.Goals as goal

pub number_of-number-requires : goal.number_of-number-requires
number_of-number-requires c = record { under = under c.args.game.now c.args.solved.now c.requires.ready c.args.pos.0 c.args.promise.now c.requires.there }
