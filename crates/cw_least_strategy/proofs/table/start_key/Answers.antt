use Rattle.cw_least_strategy.proofs.Tabled.{start_key_of}
use Rattle.cw_least_strategy.proofs.table.start_key.Goals as goal

pub returns : goal.returns
returns c =
    start_key_of c.args.solved.now c.requires.made c.game.result.now c.game.ensures c.start.result.0.0 c.start.result.1.0
    c.start.ensures.position c.start.ensures.state c.start_height.result c.empty.result c.start_height.ensures c.empty.ensures.zero
