use Rattle.std.proofs.Common.{◌≡◌, ◌<◌, ℕ, false, length, subst, arith}
use Rattle.std.specs.Prelude.{slice_get}
use Rattle.cw_game.specs.Pairs.{is_call_in}
use Rattle.cw_product.specs.Product.{game_of}
use Rattle.cw_linked.specs.Steps.{IsBound}
use Rattle.cw_linked.specs.Works.{known_of, heights_of}
use Rattle.cw_linked.proofs.Alike.{alike}
use Rattle.std.proofs.lemmas.Bool.{false_from_ne_true as false_of}
use Rattle.cw_linked.proofs.Takings.{few_written}
use Rattle.cw_linked.proofs.Telling.{implied_none, implied_asked}
use Rattle.cw_linked.proofs.implied.ask_within.Goals as goal

pub returns-then-within-eq0 : goal.returns-then-within-eq0
returns-then-within-eq0 c =
    let g = game_of c.args.game.now in
    let w = c.args.work.now in
    let at = c.args.at.now in
    let p = c.args.pos.0 in
    let q = c.args.state.0 in
    implied_none g (length c.args.game.now.graph.parts.items) c.requires.routed (alike c.args.game.now) w c.requires.known c.requires.long c.requires.high c.requires.right at p q
    (λ plain. subst (λ (y : ℕ). IsBound g (heights_of g (known_of w)) at.number p q at.context.promise y) c.if-within-eq0.true (c.requires.implied plain))

pub returns : goal.returns
returns c =
    let g = game_of c.args.game.now in
    let w = c.args.work.now in
    let at = c.args.at.now in
    let p = c.args.pos.0 in
    let q = c.args.state.0 in
    let plain : is_call_in (slice_get g.spots p) ≡ false = false_of (is_call_in (slice_get g.spots p)) (λ y. c.if-within-eq0.false (c.requires.call y)) in
    let some : 0 < c.args.within = omega (arith, c.if-within-eq0.false) in
    implied_asked g (length c.args.game.now.graph.parts.items) c.requires.routed (alike c.args.game.now) w c.ask_cell.new.work c.requires.known c.requires.long c.requires.high c.requires.right
    at p q c.requires.cell c.args.within c.index_in-index.result (c.requires.implied plain) plain some (c.requires.most w.written c.requires.high.heights)
    c.index_in-index.ensures.is c.in_ok-ask_cell.ensures

pub ask_cell-requires-clause-few : goal.ask_cell-requires-clause-few
ask_cell-requires-clause-few c =
    let w = c.args.work.now in
    let few = few_written (game_of c.args.game.now) (known_of w) c.requires.known in
    let up = c.requires.most w.written c.requires.high.heights in
    omega (arith, up, few)
