use Rattle.std.proofs.Common.{length, ap, ◌∙◌}
use Rattle.cw_product.specs.Product.{game_of}
use Rattle.cw_solve.specs.Rounds.{positions}
use Rattle.cw_linked.proofs.Placing.{function_there, few_run}
use Rattle.cw_linked.proofs.work.cell_at.Goals as goal

pub positions-requires-clause-there : goal.positions-requires-clause-there
positions-requires-clause-there c =
    let g = game_of c.args.game.now in
    rw c.function.ensures (function_there g (length c.args.game.now.graph.parts.items) c.requires.routed c.args.work.now c.requires.known
    c.args.index c.owner_near.result c.numbered-at.result c.owner_near.ensures c.numbered-at.ensures.number c.numbered-at.ensures.there)

pub of-run-requires-clause-few : goal.of-run-requires-clause-few
of-run-requires-clause-few c =
    let g = game_of c.args.game.now in
    few_run g (length c.args.game.now.graph.parts.items) c.requires.routed c.args.work.now c.requires.known
    c.args.index c.owner_near.result c.numbered-at.result c.owner_near.ensures c.numbered-at.ensures.number c.numbered-at.ensures.there
    c.positions.result (c.positions.ensures.is ∙ ap (positions g) c.function.ensures)
