use Rattle.std.proofs.Common.{◌≡◌, ℕ, Some, ◌∙◌, length, sym, subst, arith}
use Rattle.std.specs.Prelude.{slice_get}
use Rattle.cw_game.specs.Pairs.{call_in}
use Rattle.cw_product.specs.Product.{game_of}
use Rattle.cw_solve.proofs.Calling.{cell_within}
use Rattle.cw_linked.specs.Added.{ThePair}
use Rattle.cw_linked.specs.Founds.{class_of}
use Rattle.cw_linked.proofs.Bounding.{index_is}
use Rattle.cw_linked.proofs.Freeing.{frees_nothing, frees_one, link_here, class_here}
use Rattle.cw_linked.proofs.added.free_link.Goals as goal

pub class_at-requires-clause-position : goal.class_at-requires-clause-position
class_at-requires-clause-position c =
    cell_within (game_of c.args.game.now) (length c.args.game.now.graph.parts.items) c.requires.routed c.args.work.now.blocks c.requires.known.blocks
    c.args.at.now c.args.pos.0 c.args.state.0 c.requires.cell

pub returns-in-None : goal.returns-in-None
returns-in-None c =
    let g = game_of c.args.game.now in
    let w = c.args.work.now in
    let at = c.args.at.now in
    frees_nothing g at.number at.context w (ThePair c.args.pos.0 c.args.state.0)
    (λ p x call is e. c.in-None.ensures.none call (subst (λ (y : ℕ). call_in (slice_get g.spots y) ≡ Some call) e.0 is.calls))

pub returns-else-is_same : goal.returns-else-is_same
returns-else-is_same c =
    let g = game_of c.args.game.now in
    let w = c.args.work.now in
    let at = c.args.at.now in
    let s = c.in-Some.ensures.some in
    frees_nothing g at.number at.context w (ThePair c.args.pos.0 c.args.state.0)
    (λ p x call is e.
    let there = subst (λ (y : ℕ). call_in (slice_get g.spots y) ≡ Some call) e.0 is.calls in
    let class = subst (λ (y : ℕ). class_of g call.split y ≡ y) e.1 is.class in
    class_here g c.args.pos.0 c.args.state.0 c.in-Some.class.0 s.0 call s.1 s.2 (c.is_same.ensures.not c.if-is_same.false) there class)

pub ask_link-requires-clause-flagged : goal.ask_link-requires-clause-flagged
ask_link-requires-clause-flagged c =
    let g = game_of c.args.game.now in
    let at = c.args.at.now in
    let index = c.slot-index.result in
    let s = c.in-Some.ensures.some in
    let l = link_here g at.number at.context c.args.work.now.blocks.contexts.items c.args.pos.0 c.args.state.0 index c.requires.cell c.slot-index.ensures.is s.0 s.1
    (s.2 ∙ c.is_same.ensures.is c.if-is_same.true) in
    c.requires.flagged index (at.number, at.context, l.0, l.1, l.2, l.3, l.4)

pub returns-in_ok-ask_link-in-Some : goal.returns-in_ok-ask_link-in-Some
returns-in_ok-ask_link-in-Some c =
    let g = game_of c.args.game.now in
    let w = c.args.work.now in
    let at = c.args.at.now in
    let index = c.slot-index.result in
    let s = c.in-Some.ensures.some in
    frees_one g at.number at.context w c.ask_link.new.work c.args.pos.0 c.args.state.0 index (omega (arith, c.slot-index.ensures.within, c.requires.known.cells, c.requires.long.due))
    (c.slot-index.ensures.is ∙ sym (index_is g w.blocks.contexts.items at.number at.context c.args.pos.0 c.args.state.0 c.requires.cell.at))
    (link_here g at.number at.context w.blocks.contexts.items c.args.pos.0 c.args.state.0 index c.requires.cell c.slot-index.ensures.is s.0 s.1 (s.2 ∙ c.is_same.ensures.is c.if-is_same.true))
    c.in_ok-ask_link-in-Some.ensures
