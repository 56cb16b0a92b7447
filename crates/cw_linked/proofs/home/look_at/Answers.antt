use Rattle.std.proofs.Common.{length, arith}
use Rattle.cw_product.specs.Product.{game_of}
use Rattle.cw_linked.proofs.Homing.{is_block, state_here, cell_here, pos_low}
use Rattle.cw_linked.proofs.home.look_at.Goals as goal

pub overflow_add-pos : goal.overflow_add-pos
overflow_add-pos c =
    let low = pos_low (game_of c.args.game.now) (length c.args.game.now.graph.parts.items) c.requires.routed c.args.work.now c.requires.known c.args.home.now c.requires.home
    c.args.index c.requires.from c.requires.before c.by.result c.quotient-state.result c.by.ensures c.quotient-state.ensures in
    omega (arith, low)

pub overflow_cast-state : goal.overflow_cast-state
overflow_cast-state c =
    let below = state_here (game_of c.args.game.now) (length c.args.game.now.graph.parts.items) c.requires.routed c.args.work.now c.requires.known c.args.home.now c.requires.home
    c.args.index c.requires.from c.requires.before c.by.result c.quotient-state.result c.by.ensures c.quotient-state.ensures in
    omega (arith, below, c.requires.routed.few)

pub returns-clause-home : goal.returns-clause-home
returns-clause-home c =
    let home = c.requires.home in
    record { there = home.there; begins = home.begins; ends = home.ends; enters = home.enters; runs = home.runs; run = home.run }

pub returns-clause-cell : goal.returns-clause-cell
returns-clause-cell c =
    cell_here (game_of c.args.game.now) (length c.args.game.now.graph.parts.items) c.requires.routed c.args.work.now c.requires.known c.args.home.now c.requires.home
    c.args.index c.requires.from c.requires.before c.by.result c.quotient-state.result c.by.ensures c.quotient-state.ensures

pub returns-clause-block : goal.returns-clause-block
returns-clause-block c =
    is_block (game_of c.args.game.now) (length c.args.game.now.graph.parts.items) c.requires.routed c.args.work.now c.requires.known c.args.home.now c.requires.home
