use Rattle.std.proofs.Common.{length, arith}
use Rattle.cw_least_strategy.proofs.Looking.{none_is, low_is, high_is}
use Rattle.cw_least_strategy.proofs.heights.height_within.Goals as goal

pub returns-in-None : goal.returns-in-None
returns-in-None c =
    none_is c.args.solved.now (length c.args.solved.now.game.graph.parts.items) c.requires.routed c.args.number c.args.aim.now c.args.pos.0 c.args.state.0 c.args.most c.requires.here c.in-None.ensures

pub returns-then-height-most : goal.returns-then-height-most
returns-then-height-most c =
    low_is c.args.solved.now (length c.args.solved.now.game.graph.parts.items) c.requires.routed c.args.number c.args.aim.now c.args.pos.0 c.args.state.0 c.args.most c.in-Some.height
    c.requires.here c.in-Some.ensures
    (omega (arith, c.if-height-most.true))

pub returns-else-height-most : goal.returns-else-height-most
returns-else-height-most c =
    high_is c.args.solved.now (length c.args.solved.now.game.graph.parts.items) c.requires.routed c.args.number c.args.aim.now c.args.pos.0 c.args.state.0 c.args.most c.in-Some.height
    c.requires.here c.in-Some.ensures
    (omega (arith, c.if-height-most.false))
