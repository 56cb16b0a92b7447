use Rattle.std.proofs.Common.{◌<◌, ◌/◌, ◌-◌, ℕ, refl, length, get_or, ap, ◌∙◌, sym, subst, arith}
use Rattle.cw_product.specs.Product.{game_of}
use Rattle.cw_linked.proofs.Placing.{function_there, state_below, cell_is}
use Rattle.cw_linked.proofs.work.cell_in.Goals as goal

pub entry-entry-requires : goal.entry-entry-requires
entry-entry-requires c =
    let at = c.args.at in
    let there = function_there (game_of c.args.game.now) (length c.args.game.now.graph.parts.items) c.requires.routed c.args.work.now c.requires.known
    c.args.index at.number at c.requires.owner refl c.requires.there in
    subst (λ (f : ℕ). f < length c.args.game.now.graph.parts.items) (sym c.function.ensures) there.below

pub overflow_cast-result : goal.overflow_cast-result
overflow_cast-result c =
    let at = c.args.at in
    let w = c.args.work.now in
    let b = c.index.result.now in
    let below = state_below (game_of c.args.game.now) (length c.args.game.now.graph.parts.items) c.requires.routed w c.requires.known c.args.index at.number at c.requires.owner refl c.requires.there
    b c.args.run.now (c.index.ensures ∙ ap (λ (y : ℕ). get_or w.blocks.bases.items y b) c.number.ensures) c.requires.run in
    omega (arith, below, c.quotient-state.ensures, c.requires.routed.few)

pub returns : goal.returns
returns c =
    let g = game_of c.args.game.now in
    let at = c.args.at in
    let w = c.args.work.now in
    let b = c.index.result.now in
    cell_is g (length c.args.game.now.graph.parts.items) c.requires.routed w c.requires.known c.args.index at.number at c.requires.owner refl c.requires.there
    b c.by.result c.entry-entry.result.0 c.quotient-state.result (c.index.ensures ∙ ap (λ (y : ℕ). get_or w.blocks.bases.items y b) c.number.ensures) (c.by.ensures ∙ c.requires.run)
    (c.entry-entry.ensures.is ∙ ap g.entry c.function.ensures) (c.quotient-state.ensures ∙ ap (λ (y : ℕ). (c.args.index - b) / y) (sym c.by.ensures))
