use Rattle.cw_stages.proofs.Made.{start_height, start_numbered}
use Rattle.cw_stages.proofs.verdict.start_height.Goals as goal

pub height-requires : goal.height-requires
height-requires c = record {
  cell = start_numbered c.args.solved.now c.args.game.now c.start.result.0.0 c.start.result.1.0 c.requires.solved
      c.requires.made c.fact_contexts_are_needed.ensures c.start.ensures.position c.start.ensures.within.1;
}

pub returns : goal.returns
returns c =
    start_height c.args.solved.now c.args.game.now c.start.result.0.0 c.start.result.1.0 c.height.result c.requires.solved c.fact_contexts_are_needed.ensures
    c.start.ensures.position c.start.ensures.state c.height.ensures
