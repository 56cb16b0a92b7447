use Rattle.cw_least_strategy.proofs.Tabled.{start_cell, start_high, start_kept}
use Rattle.cw_least_strategy.proofs.table.start_height.Goals as goal

pub height-requires : goal.height-requires
height-requires c =
    record {
      cell = start_cell c.args.solved.now c.requires.made c.game.result.now c.game.ensures c.start.result.0.0 c.start.result.1.0
          c.start.ensures.position c.start.ensures.state c.fact_contexts_are_needed.ensures;
    }

pub returns-in-None : goal.returns-in-None
returns-in-None c =
    absurd (start_kept c.args.solved.now c.requires.made c.game.result.now c.game.ensures c.start.result.0.0 c.start.result.1.0
    c.start.ensures.position c.start.ensures.state c.fact_contexts_are_needed.ensures c.in-None.ensures c.requires.lost)

pub returns-in-Some : goal.returns-in-Some
returns-in-Some c =
    start_high c.args.solved.now c.requires.made c.game.result.now c.game.ensures c.start.result.0.0 c.start.result.1.0
    c.start.ensures.position c.start.ensures.state c.in-Some.height c.fact_contexts_are_needed.ensures c.in-Some.ensures
