use Rattle.std.proofs.Common.{◌<◌, ℕ, length, sym, ap, ◌∙◌, subst}
use Rattle.std.proofs.lemmas.List.{get_or_default}
use Rattle.cw_product.specs.Product.{game_of}
use Rattle.cw_solve.specs.Rounds.{positions}
use Rattle.cw_linked.proofs.Placing.{function_there}
use Rattle.cw_linked.proofs.work.cell_by.Goals as goal

pub bounds-runs-function : goal.bounds-runs-function
bounds-runs-function c =
    let g = game_of c.args.game.now in
    let there = function_there g (length c.args.game.now.graph.parts.items) c.requires.routed c.args.work.now c.requires.known
    c.args.index c.owner_near.result c.numbered-at.result c.owner_near.ensures c.numbered-at.ensures.number c.numbered-at.ensures.there in
    c.requires.runs.all c.function.result (subst (λ (f : ℕ). f < length c.args.game.now.graph.parts.items) (sym c.function.ensures) there.below) c.function.type_inv

pub cell_in-requires-clause-run : goal.cell_in-requires-clause-run
cell_in-requires-clause-run c =
    let g = game_of c.args.game.now in
    let there = function_there g (length c.args.game.now.graph.parts.items) c.requires.routed c.args.work.now c.requires.known
    c.args.index c.owner_near.result c.numbered-at.result c.owner_near.ensures c.numbered-at.ensures.number c.numbered-at.ensures.there in
    let lt = c.requires.runs.all c.function.result (subst (λ (f : ℕ). f < length c.args.game.now.graph.parts.items) (sym c.function.ensures) there.below) c.function.type_inv in
    c.index-runs-function.is ∙ get_or_default c.args.runs.now c.function.result c.index-runs-function.result 0 lt ∙ c.requires.runs.are c.function.result lt ∙ ap (positions g) c.function.ensures
