use Rattle.std.proofs.Common.{length, arith}
use Rattle.cw_product.specs.Product.{game_of}
use Rattle.cw_linked.specs.Works.{cell_of}
use Rattle.cw_linked.proofs.Alike.{alike}
use Rattle.cw_linked.proofs.Returning.{own_link, own_asked, own_unpromised}
use Rattle.cw_linked.proofs.returns.ask_own.Goals as goal

pub is_promised-requires-clause-state : goal.is_promised-requires-clause-state
is_promised-requires-clause-state c = omega (arith, c.requires.cell.state, c.requires.routed.few)

pub ask_link-requires-clause-flagged : goal.ask_link-requires-clause-flagged
ask_link-requires-clause-flagged c =
    let s = c.in-Some.ensures.some in
    c.requires.flagged c.index_in-link.result
    (own_link (game_of c.args.game.now) (length c.args.game.now.graph.parts.items) c.requires.routed (alike c.args.game.now) c.args.work.now c.requires.known c.requires.long
    c.requires.high c.requires.right (cell_of c.args.at.now c.args.back c.args.state) c.requires.cell c.args.height c.requires.some c.requires.taken c.args.pos.0
    c.requires.of c.requires.returns s.0 s.1 c.in-Some.class.0 s.2 c.index_in-link.result c.index_in-link.ensures.is)

pub returns-in_ok-ask_link-in-Some : goal.returns-in_ok-ask_link-in-Some
returns-in_ok-ask_link-in-Some c =
    let s = c.in-Some.ensures.some in
    own_asked (game_of c.args.game.now) (length c.args.game.now.graph.parts.items) c.requires.routed (alike c.args.game.now) c.args.work.now c.requires.known c.requires.long
    c.requires.high c.requires.right (cell_of c.args.at.now c.args.back c.args.state) c.requires.cell c.args.height c.requires.some c.requires.taken c.args.pos.0
    c.requires.of c.requires.returns s.0 s.1 c.in-Some.class.0 s.2 c.index_in-link.result c.index_in-link.ensures.is c.ask_link.new.work
    (c.is_promised.ensures.is c.if-is_promised.true) c.in_ok-ask_link-in-Some.ensures

pub returns-else-is_promised : goal.returns-else-is_promised
returns-else-is_promised c =
    let s = c.in-Some.ensures.some in
    own_unpromised (game_of c.args.game.now) (length c.args.game.now.graph.parts.items) c.requires.routed (alike c.args.game.now) c.args.work.now c.requires.known c.requires.long
    c.requires.high c.requires.right (cell_of c.args.at.now c.args.back c.args.state) c.requires.cell c.args.height c.requires.some c.requires.taken c.args.pos.0
    c.requires.of c.requires.returns s.0 s.1 c.in-Some.class.0 s.2 c.index_in-link.result c.index_in-link.ensures.is (c.is_promised.ensures.not c.if-is_promised.false)
