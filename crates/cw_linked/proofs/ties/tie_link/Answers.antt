use Rattle.std.proofs.Common.{length}
use Rattle.cw_product.specs.Product.{game_of}
use Rattle.cw_solve.proofs.Keeping.{few}
use Rattle.cw_linked.proofs.Alike.{alike}
use Rattle.cw_linked.proofs.Takings.{few_number}
use Rattle.cw_linked.proofs.Tightening.{within, link_flagged, mid_firm, mid_goes, mid_called, back_of_link, one_few, one_flagged, one_tied, one_wave, one_standing, tied_all}
use Rattle.cw_linked.proofs.ties.tie_link.Goals as goal

pub tie-requires-clause-within : goal.tie-requires-clause-within
tie-requires-clause-within c =
    let g = game_of c.args.game.now in
    let functions = length c.args.game.now.graph.parts.items in
    within g functions c.requires.routed (alike c.args.game.now) c.args.work.now c.args.work.now c.args.link.now c.args.index c.args.moves c.args.callee.now.number c.args.back.0
    c.args.callee.now.context c.requires.tieable

pub tie-requires-clause-flagged : goal.tie-requires-clause-flagged
tie-requires-clause-flagged c =
    let g = game_of c.args.game.now in
    let functions = length c.args.game.now.graph.parts.items in
    link_flagged g functions c.requires.routed (alike c.args.game.now) c.args.work.now c.args.work.now c.args.link.now
    c.args.index c.args.moves c.args.callee.now.number c.args.back.0 c.args.callee.now.context c.requires.tieable

pub tie-requires-clause-contexts : goal.tie-requires-clause-contexts
tie-requires-clause-contexts c = few (game_of c.args.game.now) (length c.args.game.now.graph.parts.items) c.requires.routed c.args.work.now.blocks c.requires.tieable.firm.known.blocks

pub tie-requires-clause-number : goal.tie-requires-clause-number
tie-requires-clause-number c = few_number c.args.work.now.blocks.contexts.items c.args.callee.now.number c.args.callee.now.context c.requires.tieable.there

pub ask_calls-requires-clause-goes : goal.ask_calls-requires-clause-goes
ask_calls-requires-clause-goes c =
    let g = game_of c.args.game.now in
    let functions = length c.args.game.now.graph.parts.items in
    mid_goes g functions c.requires.routed (alike c.args.game.now) c.args.work.now c.tie.new.work c.args.link.now c.args.index c.args.moves c.args.callee.now.number c.args.back.0
    c.args.callee.now.context c.requires.tieable c.tie.ensures

pub ask_calls-requires-clause-high : goal.ask_calls-requires-clause-high
ask_calls-requires-clause-high c =
    let g = game_of c.args.game.now in
    let functions = length c.args.game.now.graph.parts.items in
    (mid_firm g functions c.requires.routed (alike c.args.game.now) c.args.work.now c.tie.new.work c.args.link.now c.args.index c.args.moves c.args.callee.now.number c.args.back.0
    c.args.callee.now.context c.requires.tieable c.tie.ensures).high

pub ask_calls-requires-clause-right : goal.ask_calls-requires-clause-right
ask_calls-requires-clause-right c =
    let g = game_of c.args.game.now in
    let functions = length c.args.game.now.graph.parts.items in
    (mid_firm g functions c.requires.routed (alike c.args.game.now) c.args.work.now c.tie.new.work c.args.link.now c.args.index c.args.moves c.args.callee.now.number c.args.back.0
    c.args.callee.now.context c.requires.tieable c.tie.ensures).right

pub ask_calls-requires-clause-called : goal.ask_calls-requires-clause-called
ask_calls-requires-clause-called c =
    let g = game_of c.args.game.now in
    let functions = length c.args.game.now.graph.parts.items in
    mid_called g functions c.requires.routed (alike c.args.game.now) c.args.work.now c.tie.new.work c.args.link.now c.args.index c.args.moves c.args.callee.now.number c.args.back.0
    c.args.callee.now.context c.requires.tieable c.tie.ensures

pub ask_again-requires-clause-back : goal.ask_again-requires-clause-back
ask_again-requires-clause-back c =
    let g = game_of c.args.game.now in
    let functions = length c.args.game.now.graph.parts.items in
    back_of_link g functions c.requires.routed (alike c.args.game.now) c.args.work.now c.tie.new.work c.args.link.now c.args.index c.args.moves c.args.callee.now.number c.args.back.0
    c.args.callee.now.context c.requires.tieable c.tie.ensures

pub ask_again-requires-clause-tied : goal.ask_again-requires-clause-tied
ask_again-requires-clause-tied c =
    let g = game_of c.args.game.now in
    let functions = length c.args.game.now.graph.parts.items in
    one_tied g functions c.requires.routed (alike c.args.game.now) c.args.work.now c.tie.new.work c.args.link.now c.args.index c.args.moves c.args.callee.now.number c.args.back.0
    c.args.callee.now.context c.requires.tieable c.tie.ensures c.ask_calls.new.work c.in_ok-ask_calls.ensures

pub ask_again-requires-clause-wave : goal.ask_again-requires-clause-wave
ask_again-requires-clause-wave c =
    let g = game_of c.args.game.now in
    let functions = length c.args.game.now.graph.parts.items in
    one_wave g functions c.requires.routed (alike c.args.game.now) c.args.work.now c.tie.new.work c.args.link.now c.args.index c.args.moves c.args.callee.now.number c.args.back.0
    c.args.callee.now.context c.requires.tieable c.tie.ensures c.ask_calls.new.work c.in_ok-ask_calls.ensures

pub ask_again-requires-clause-few : goal.ask_again-requires-clause-few
ask_again-requires-clause-few c =
    let g = game_of c.args.game.now in
    let functions = length c.args.game.now.graph.parts.items in
    one_few g functions c.requires.routed (alike c.args.game.now) c.args.work.now c.tie.new.work c.args.link.now c.args.index c.args.moves c.args.callee.now.number c.args.back.0
    c.args.callee.now.context c.requires.tieable c.tie.ensures c.ask_calls.new.work c.in_ok-ask_calls.ensures

pub ask_again-requires-clause-flagged : goal.ask_again-requires-clause-flagged
ask_again-requires-clause-flagged c =
    let g = game_of c.args.game.now in
    let functions = length c.args.game.now.graph.parts.items in
    one_flagged g functions c.requires.routed (alike c.args.game.now) c.args.work.now c.tie.new.work c.args.link.now c.args.index
    c.args.moves c.args.callee.now.number c.args.back.0 c.args.callee.now.context c.requires.tieable c.tie.ensures c.ask_calls.new.work c.in_ok-ask_calls.ensures

pub ask_again-requires-clause-standing : goal.ask_again-requires-clause-standing
ask_again-requires-clause-standing c =
    let g = game_of c.args.game.now in
    let functions = length c.args.game.now.graph.parts.items in
    one_standing g functions c.requires.routed (alike c.args.game.now) c.args.work.now c.tie.new.work c.args.link.now c.args.index c.args.moves c.args.callee.now.number c.args.back.0
    c.args.callee.now.context c.requires.tieable c.tie.ensures c.ask_calls.new.work c.in_ok-ask_calls.ensures

pub returns : goal.returns
returns c =
    let g = game_of c.args.game.now in
    let functions = length c.args.game.now.graph.parts.items in
    tied_all g functions c.requires.routed (alike c.args.game.now) c.args.work.now c.tie.new.work c.args.link.now c.args.index c.args.moves c.args.callee.now.number c.args.back.0
    c.args.callee.now.context c.requires.tieable c.tie.ensures c.ask_calls.new.work c.in_ok-ask_calls.ensures c.ask_again.new.work c.in_ok-ask_again.ensures
