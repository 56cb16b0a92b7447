use Rattle.std.proofs.Common.{length}
use Rattle.cw_solve.proofs.Numbering.{function_there}
use Rattle.cw_least_strategy.proofs.contexts.entry_of.Goals as goal

pub exit-requires : goal.exit-requires
exit-requires c =
    let h = c.args.solved.now in
    rw c.game-2.ensures
    (function_there h (length h.game.graph.parts.items) c.requires.routed c.fact_contexts_are_needed.ensures c.args.number c.context-context.result.now c.context-context.ensures).below
