use Rattle.std.proofs.Common.{◌∙◌, ◌||◌, Bool, length, ap₂, arith, inl, inr}
use Rattle.std.specs.Prelude.{slice_get}
use Rattle.cw_game.specs.Pairs.{has}
use Rattle.cw_product.specs.Product.{game_of}
use Rattle.cw_solve.proofs.Calling.{cell_within}
use Rattle.cw_linked.specs.Founds.{implied}
use Rattle.cw_linked.specs.Works.{known_of, heights_of}
use Rattle.cw_linked.proofs.Blocking.{skips, tries, by_visit}
use Rattle.cw_linked.proofs.bounds.visit_bound.Goals as goal

pub overflow_add-pos : goal.overflow_add-pos
overflow_add-pos c =
    let lt = cell_within (game_of c.args.game.now) (length c.args.game.now.graph.parts.items) c.requires.routed c.args.work.now.blocks c.requires.known.blocks
    c.args.at.now c.args.pos.0 c.args.state.0 c.requires.cell in
    omega (arith, lt, c.requires.routed.short)

pub height_to-skip-requires-clause-leads : goal.height_to-skip-requires-clause-leads
height_to-skip-requires-clause-leads c =
    let g = game_of c.args.game.now in
    skips g c.args.pos.0 c.args.state.0 (slice_get g.spots c.args.pos.0) c.requires.visit

pub overflow_add-pos-2 : goal.overflow_add-pos-2
overflow_add-pos-2 c =
    let lt = cell_within (game_of c.args.game.now) (length c.args.game.now.graph.parts.items) c.requires.routed c.args.work.now.blocks c.requires.known.blocks
    c.args.at.now c.args.pos.0 c.args.state.0 c.requires.cell in
    omega (arith, lt, c.requires.routed.short)

pub height_to-tried-requires-clause-leads : goal.height_to-tried-requires-clause-leads
height_to-tried-requires-clause-leads c =
    let g = game_of c.args.game.now in
    tries g c.args.pos.0 c.args.state.0 (slice_get g.spots c.args.pos.0) c.requires.visit

pub returns-clause-tells : goal.returns-clause-tells
returns-clause-tells c n =
    let g = game_of c.args.game.now in
    let at = c.args.at.now in
    c.both.ensures.tells n ∙ ap₂ (λ (a b : Bool). a || b) (c.height_to-skip.ensures.tells n) (c.height_to-tried.ensures.tells n)
    ∙ by_visit g c.args.pos.0 c.args.state.0 (implied (heights_of g (known_of c.args.work.now)) at.number n) (has at.context.promise) (slice_get g.spots c.args.pos.0) c.requires.visit

pub returns-clause-high : goal.returns-clause-high
returns-clause-high c most up =
    let skip = c.height_to-skip.ensures.most most up in
    let tried = c.height_to-tried.ensures.most most up in
    elim c.both.ensures.high [ inl le ↦ omega (arith, le, skip) | inr le ↦ omega (arith, le, tried) ]
