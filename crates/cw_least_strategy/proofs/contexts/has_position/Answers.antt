use Rattle.std.proofs.Common.{length}
use Rattle.cw_solve.proofs.Numbering.{function_there}
use Rattle.cw_least_strategy.proofs.contexts.has_position.Goals as goal

pub entry-requires : goal.entry-requires
entry-requires c =
    let h = c.args.solved.now in
    rw c.game-game.ensures
    (function_there h (length h.game.graph.parts.items) c.requires.routed c.fact_contexts_are_needed.ensures c.args.number c.context.result.now c.context.ensures).below

pub exit-requires : goal.exit-requires
exit-requires c =
    let h = c.args.solved.now in
    rw c.game-game.ensures
    (function_there h (length h.game.graph.parts.items) c.requires.routed c.fact_contexts_are_needed.ensures c.args.number c.context.result.now c.context.ensures).below
