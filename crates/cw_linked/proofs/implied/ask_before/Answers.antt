use Rattle.std.proofs.Common.{◌≡◌, ◌+◌, ◌≤◌, false, length, ap, arith}
use Rattle.std.specs.Prelude.{slice_get}
use Rattle.cw_game.specs.Pairs.{is_call_in}
use Rattle.cw_product.specs.Product.{game_of}
use Rattle.cw_linked.specs.Works.{known_of, heights_of, index_at}
use Rattle.cw_linked.proofs.Alike.{alike}
use Rattle.cw_linked.proofs.Blocking.{step_implied}
use Rattle.cw_linked.proofs.Takings.{few_written}
use Rattle.cw_linked.proofs.Telling.{implied_asked}
use Rattle.cw_linked.proofs.implied.ask_before.Goals as goal

pub overflow_add-moves : goal.overflow_add-moves
overflow_add-moves c =
    let g = game_of c.args.game.now in
    let t = known_of c.args.work.now in
    let up : heights_of g t c.args.at.now.number c.args.to.0 c.args.state.0 ≤ t.written
    = c.requires.high.heights (index_at g t.blocks.contexts.items c.args.at.now.number c.args.to.0 c.args.state.0) in
    let few = few_written g t c.requires.known in
    omega (arith, up, few, c.requires.taken)

pub ask_cell-requires-clause-few : goal.ask_cell-requires-clause-few
ask_cell-requires-clause-few c =
    let g = game_of c.args.game.now in
    let t = known_of c.args.work.now in
    let up : heights_of g t c.args.at.now.number c.args.to.0 c.args.state.0 ≤ t.written
    = c.requires.high.heights (index_at g t.blocks.contexts.items c.args.at.now.number c.args.to.0 c.args.state.0) in
    let few = few_written g t c.requires.known in
    omega (arith, up, few, c.requires.taken)

pub returns-then-source : goal.returns-then-source
returns-then-source c =
    let g = game_of c.args.game.now in
    let w = c.args.work.now in
    let at = c.args.at.now in
    let p = c.args.source.pos.0 in
    let q = c.args.state.0 in
    let step = c.requires.step c.if-source.true in
    let plain : is_call_in (slice_get g.spots p) ≡ false = ap is_call_in step in
    let up : heights_of g (known_of w) at.number c.args.to.0 q ≤ w.written = c.requires.high.heights (index_at g w.blocks.contexts.items at.number c.args.to.0 q) in
    implied_asked g (length c.args.game.now.graph.parts.items) c.requires.routed (alike c.args.game.now) w c.ask_cell.new.work c.requires.known c.requires.long c.requires.high c.requires.right
    at p q c.requires.cell (c.args.height + 1) c.index_in-index.result
    (step_implied g (heights_of g (known_of w)) at.number p q at.context.promise c.args.to.0 c.args.height step c.requires.taken c.requires.some) plain (omega arith)
    (omega (arith, up, c.requires.taken)) c.index_in-index.ensures.is c.in_ok-ask_cell.ensures
