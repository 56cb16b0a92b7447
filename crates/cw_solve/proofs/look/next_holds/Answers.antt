use Rattle.std.proofs.Common.{length, sym, ◌∙◌, ap, ◌||◌}
use Rattle.std.specs.Prelude.{slice_get}
use Rattle.cw_core.specs.StateSet.{has as has_member}
use Rattle.cw_game.specs.Games.{Holds}
use Rattle.cw_game.specs.Pairs.{has}
use Rattle.cw_product.specs.Product.{game_of}
use Rattle.cw_solve.specs.declared.contexts.Context.{Context}
use Rattle.cw_solve.proofs.Calling.{cell_within}
use Rattle.cw_solve.proofs.Tabling.{read_context}
use Rattle.cw_solve.proofs.Turning.{turn_call, turn_exit}
use Rattle.cw_solve.proofs.look.next_holds.Goals as goal
use Rattle.cw_solve.proofs.look.next_holds.Goals.{then-main, else-main}

pub turn-requires : goal.turn-requires
turn-requires c =
    let g = game_of c.args.game.now in
    let functions = length c.args.game.now.graph.parts.items in
    cell_within g functions c.requires.routed c.args.table.now.blocks c.requires.table.blocks c.args.at.now c.args.pos.0 c.args.state.0 c.requires.cell

pub call_holds-requires-clause-call : goal.call_holds-requires-clause-call
call_holds-requires-clause-call c =
    let g = game_of c.args.game.now in
    turn_call g (slice_get g.spots c.args.pos.0) c.in-Call.callee c.in-Call.split c.in-Call.back c.in-Call.ensures

pub bad-requires-clause-position : goal.bad-requires-clause-position
bad-requires-clause-position c =
    let g = game_of c.args.game.now in
    let functions = length c.args.game.now.graph.parts.items in
    cell_within g functions c.requires.routed c.args.table.now.blocks c.requires.table.blocks c.args.at.now c.args.pos.0 c.args.state.0 c.requires.cell

pub returns-after-main-clause-holds : goal.returns-after-main-clause-holds
unfolding has_member
returns-after-main-clause-holds c =
    let g = game_of c.args.game.now in
    let e = has c.args.at.now.context.promise in
    let end = turn_exit g (λ p q e. Holds g c.args.n p q e) c.args.pos.0 c.args.state.0 e (slice_get g.spots c.args.pos.0) c.in-Exit.main c.in-Exit.ensures in
    elim c.if-main.branch [
      | then-main w ↦ w.result-is ∙ w.if-main.true ∙ sym (ap (λ b. b || e c.args.state.0) w.if-main.true) ∙ end
      | else-main w ↦
          let read = read_context c.args.table.now.blocks c.args.at.now w.number.result w.index.result.now w.number.ensures c.requires.cell.at w.index.ensures in
          w.result-is ∙ w.contains.ensures.member ∙ ap (λ (x : Context). has x.promise c.args.state.0) read ∙ sym (ap (λ b. b || e c.args.state.0) w.if-main.false) ∙ end
    ]
