use Rattle.std.proofs.Common.{◌<◌, ℕ, length, sym, ap, ◌∙◌, subst, arith}
use Rattle.std.proofs.lemmas.List.{get_or_default}
use Rattle.cw_product.specs.Product.{game_of}
use Rattle.cw_solve.specs.Rounds.{positions}
use Rattle.cw_solve.proofs.Tabling.{there_at}
use Rattle.cw_linked.proofs.Homing.{block_low, block_has, home_made}
use Rattle.cw_linked.proofs.home.home_of.Goals as goal

pub bounds-runs-function : goal.bounds-runs-function
bounds-runs-function c =
    let at = c.numbered-at.result in
    let there = there_at (game_of c.args.game.now) (length c.args.game.now.graph.parts.items) c.requires.routed c.args.blocks.now c.requires.blocks at.number at.context c.numbered-at.ensures.there in
    c.requires.runs.all c.function.result (subst (λ (f : ℕ). f < length c.args.game.now.graph.parts.items) (sym c.function.ensures) there.below) c.function.type_inv

pub overflow_mul-past : goal.overflow_mul-past
overflow_mul-past c =
    let low = block_low (game_of c.args.game.now) c.args.blocks.now c.requires.blocks c.numbered-at.result c.numbered-at.ensures.there c.block_by-block.result c.block_by-block.ensures c.states.result
    c.states.ensures in
    omega (arith, low)

pub overflow_add-past : goal.overflow_add-past
overflow_add-past c =
    let low = block_low (game_of c.args.game.now) c.args.blocks.now c.requires.blocks c.numbered-at.result c.numbered-at.ensures.there c.block_by-block.result c.block_by-block.ensures c.states.result
    c.states.ensures in
    omega (arith, low)

pub returns-clause-home : goal.returns-clause-home
returns-clause-home c =
    let g = game_of c.args.game.now in
    let at = c.numbered-at.result in
    let there = there_at g (length c.args.game.now.graph.parts.items) c.requires.routed c.args.blocks.now c.requires.blocks at.number at.context c.numbered-at.ensures.there in
    let lt = c.requires.runs.all c.function.result (subst (λ (f : ℕ). f < length c.args.game.now.graph.parts.items) (sym c.function.ensures) there.below) c.function.type_inv in
    home_made g c.args.blocks.now c.requires.blocks at c.numbered-at.ensures.there c.block_by-block.result c.block_by-block.ensures c.states.result c.states.ensures (record { 0 = 0 })
    (record { 0 = 0 }) c.again.result c.args.earlier
    (c.again.ensures ∙ c.index-runs-function.is ∙ get_or_default c.args.runs.now c.function.result c.index-runs-function.result 0 lt ∙ c.requires.runs.are c.function.result lt
    ∙ ap (positions g) c.function.ensures)

pub returns-clause-from : goal.returns-clause-from
returns-clause-from c =
    (block_has (game_of c.args.game.now) c.args.blocks.now c.requires.blocks c.numbered-at.result c.numbered-at.ensures.there c.block_by-block.result c.block_by-block.ensures c.states.result
    c.states.ensures c.owner_near.result c.args.index c.numbered-at.ensures.number c.owner_near.ensures).0

pub returns-clause-before : goal.returns-clause-before
returns-clause-before c =
    (block_has (game_of c.args.game.now) c.args.blocks.now c.requires.blocks c.numbered-at.result c.numbered-at.ensures.there c.block_by-block.result c.block_by-block.ensures c.states.result
    c.states.ensures c.owner_near.result c.args.index c.numbered-at.ensures.number c.owner_near.ensures).1
