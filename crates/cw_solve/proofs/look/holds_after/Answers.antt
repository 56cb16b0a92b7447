use Rattle.std.proofs.Common.{length, sym}
use Rattle.cw_product.specs.Product.{game_of}
use Rattle.cw_solve.proofs.Calling.{cell_within, moved}
use Rattle.cw_solve.proofs.look.holds_after.Goals as goal

pub next-requires-clause-position : goal.next-requires-clause-position
next-requires-clause-position c =
    let g = game_of c.args.game.now in
    let functions = length c.args.game.now.graph.parts.items in
    cell_within g functions c.requires.routed c.args.table.now.blocks c.requires.table.blocks c.args.at.now c.args.pos.0 c.args.state.0 c.requires.cell

pub holds-requires-clause-cell : goal.holds-requires-clause-cell
holds-requires-clause-cell c =
    let g = game_of c.args.game.now in
    let functions = length c.args.game.now.graph.parts.items in
    moved g functions c.requires.routed c.args.table.now.blocks c.requires.table.blocks c.args.at.now c.args.pos.0 c.args.state.0 c.args.by c.in-Some.pos.0 c.in-Some.state.0 c.requires.cell
    (sym c.in-Some.ensures.is) c.in-Some.ensures.within.1
