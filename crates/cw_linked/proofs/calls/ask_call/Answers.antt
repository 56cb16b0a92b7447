use Rattle.std.proofs.Common.{length, sym, ◌∙◌}
use Rattle.cw_product.specs.Product.{game_of}
use Rattle.cw_linked.specs.Works.{cell_of}
use Rattle.cw_linked.proofs.Alike.{alike}
use Rattle.cw_linked.proofs.Callers.{call_elsewhere}
use Rattle.cw_linked.proofs.calls.ask_call.Goals as goal

pub ask_linked-requires-clause-goes : goal.ask_linked-requires-clause-goes
ask_linked-requires-clause-goes c = sym c.to.ensures ∙ c.is_list_of.ensures.is c.if-is_list_of.true

pub ask_linked-requires-clause-moves : goal.ask_linked-requires-clause-moves
ask_linked-requires-clause-moves c = sym c.wave-moves.ensures

pub returns-else-is_list_of : goal.returns-else-is_list_of
returns-else-is_list_of c =
    call_elsewhere (game_of c.args.game.now) (length c.args.game.now.graph.parts.items) c.requires.routed
    (alike c.args.game.now) c.args.work.now c.requires.known c.args.link c.requires.long c.requires.high
    c.requires.right (cell_of c.args.at.now c.args.pos c.args.state) (λ e. c.is_list_of.ensures.not c.if-is_list_of.false (c.to.ensures ∙ e))
