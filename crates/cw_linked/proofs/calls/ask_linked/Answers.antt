use Rattle.std.proofs.Common.{◌≡◌, ℕ, ◌+◌, ◌∙◌, length, sym, subst, arith}
use Rattle.std.specs.Prelude.{◌⊎◌, slice_get, slice_index}
use Rattle.cw_product.specs.Product.{game_of}
use Rattle.cw_solve.proofs.Calling.{cell_within}
use Rattle.cw_linked.specs.Works.{known_of, index_at, cell_of}
use Rattle.cw_linked.proofs.Alike.{alike}
use Rattle.cw_linked.proofs.Callers.{call_asked, call_unasked}
use Rattle.cw_linked.proofs.Returning.{greater_low, other_class}
use Rattle.cw_linked.proofs.Takings.{few_written}
use Rattle.cw_linked.proofs.calls.ask_linked.Goals as goal

-- where a link has so many moves
of_moves : (moves wave most height : ℕ) → wave ≡ moves → (moves ≡ most) ⊎ (height ≡ most) → (wave ≡ most) ⊎ (height ≡ most)
of_moves moves wave most height e one = subst (λ (k : ℕ). (k ≡ most) ⊎ (height ≡ most)) (sym e) one

pub class_at-requires-clause-position : goal.class_at-requires-clause-position
class_at-requires-clause-position c =
    let caller = c.cell_at-caller.result in
    cell_within (game_of c.args.game.now) (length c.args.game.now.graph.parts.items) c.requires.routed c.args.work.now.blocks c.requires.known.blocks caller.at caller.pos.0 caller.state.0 c.cell_at-caller.ensures.is

pub returns-in-None : goal.returns-in-None
returns-in-None c =
    let g = game_of c.args.game.now in
    call_unasked g (length c.args.game.now.graph.parts.items) c.requires.routed (alike c.args.game.now) c.args.work.now c.requires.known c.args.link c.cell_at-caller.result c.requires.long c.requires.high c.requires.right
    c.cell_at-caller.ensures (cell_of c.args.at.now c.args.pos c.args.state) (λ call es class. c.in-None.ensures.none call es)

pub returns : goal.returns
returns c =
    let g = game_of c.args.game.now in
    let s = c.in-Some.ensures.some in
    call_unasked g (length c.args.game.now.graph.parts.items) c.requires.routed (alike c.args.game.now) c.args.work.now c.requires.known c.args.link c.cell_at-caller.result c.requires.long c.requires.high c.requires.right
    c.cell_at-caller.ensures (cell_of c.args.at.now c.args.pos c.args.state) (other_class g (slice_get g.spots c.cell_at-caller.result.pos.0) c.args.state.0 c.in-Some.class.0 c.cell_at-caller.result.state.0 s.0 s.1 s.2 (c.is_same.ensures.not c.if-is_same.false))

pub returns-then-is_same : goal.returns-then-is_same
returns-then-is_same c =
    let g = game_of c.args.game.now in
    let w = c.args.work.now in
    let cell = cell_of c.args.at.now c.args.pos c.args.state in
    let s = c.in-Some.ensures.some in
    let most = c.greater-most.result in
    let wave = slice_index w.store.waves c.args.link in
    let one = of_moves c.args.moves wave most c.args.height c.requires.moves c.greater-most.ensures.one in
    call_asked g (length c.args.game.now.graph.parts.items) c.requires.routed (alike c.args.game.now) w c.requires.known c.ask_cell.new.work c.requires.long c.requires.high c.requires.right
    cell c.requires.cell c.args.height c.requires.some c.requires.taken c.args.link c.cell_at-caller.result c.cell_at-caller.ensures s.0 s.1 (s.2 ∙ c.is_same.ensures.is c.if-is_same.true)
    c.requires.goes c.requires.entry most (most + 1) c.slot-index.result
    (omega arith) one (omega (arith, c.requires.moves, c.greater-most.ensures.moves)) c.greater-most.ensures.high
    (greater_low most c.args.height wave w.written one (c.requires.high.waves c.args.link)
    (let h = c.requires.high.heights (index_at g w.blocks.contexts.items cell.at.number cell.pos.0 cell.state.0) in omega (arith, h, c.requires.taken)))
    c.slot-index.ensures.is c.in_ok-ask_cell-in-Some.ensures

pub overflow_add-within : goal.overflow_add-within
overflow_add-within c =
    let g = game_of c.args.game.now in
    let w = c.args.work.now in
    let cell = cell_of c.args.at.now c.args.pos c.args.state in
    let most = c.greater-most.result in
    let wave = slice_index w.store.waves c.args.link in
    let one = of_moves c.args.moves wave most c.args.height c.requires.moves c.greater-most.ensures.one in
    let l = (greater_low most c.args.height wave w.written one (c.requires.high.waves c.args.link)
    (let h = c.requires.high.heights (index_at g w.blocks.contexts.items cell.at.number cell.pos.0 cell.state.0) in omega (arith, h, c.requires.taken))) in
    let f = few_written g (known_of w) c.requires.known in
    omega (arith, l, f)

pub ask_cell-requires-clause-few : goal.ask_cell-requires-clause-few
ask_cell-requires-clause-few c =
    let g = game_of c.args.game.now in
    let w = c.args.work.now in
    let cell = cell_of c.args.at.now c.args.pos c.args.state in
    let most = c.greater-most.result in
    let wave = slice_index w.store.waves c.args.link in
    let one = of_moves c.args.moves wave most c.args.height c.requires.moves c.greater-most.ensures.one in
    let l = (greater_low most c.args.height wave w.written one (c.requires.high.waves c.args.link)
    (let h = c.requires.high.heights (index_at g w.blocks.contexts.items cell.at.number cell.pos.0 cell.state.0) in omega (arith, h, c.requires.taken))) in
    let f = few_written g (known_of w) c.requires.known in
    omega (arith, l, f)
