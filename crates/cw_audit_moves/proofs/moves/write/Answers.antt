use Rattle.std.proofs.Common.{length, Some, refl, ap, None}
use Rattle.cw_product.specs.Product.{game_of}
use Rattle.cw_audit_store.specs.Finding.{found_of, ways_of, way_of, caller_of}
use Rattle.cw_audit_moves.specs.Writing.{stack_of, todo_of}
use Rattle.cw_audit_moves.proofs.Steps.{step_written, row_written, reach_written, for_next, row_way, row_callee, group_call}
use Rattle.cw_audit_moves.proofs.moves.write.Goals as goal

pub put_way-requires : goal.put_way-requires
put_way-requires c = row_callee (game_of c.args.game.now) (length c.args.game.now.graph.parts.items) c.args.store.now c.requires.ready c.in-Row.row_key c.in-Some.row c.in-Some.ensures

pub returns-in_ok-push-in-Step : goal.returns-in_ok-push-in-Step
returns-in_ok-push-in-Step c = λ n.
    let g = game_of c.args.game.now in
    let functions = length c.args.game.now.graph.parts.items in
    let s = found_of c.args.store.now in
    let w = ways_of c.args.store.now in
    let left = stack_of c.args.todo.now.items in
    for_next g functions s w c.requires.ready n c.args.moves.now.items c.push.new.self.items left left (todo_of c.args.next) _ (ap todo_of c.in-Step.is)
    (step_written g functions s w c.requires.ready n c.args.moves.now.items c.push.new.self.items left c.in-Step.by c.in_ok-push-in-Step.ensures.items)

pub returns-in_ok-put_way-in-Row : goal.returns-in_ok-put_way-in-Row
returns-in_ok-put_way-in-Row c = λ n.
    let g = game_of c.args.game.now in
    let functions = length c.args.game.now.graph.parts.items in
    let s = found_of c.args.store.now in
    let w = ways_of c.args.store.now in
    let left = stack_of c.args.todo.now.items in
    let at = c.in-Row.row_key in
    for_next g functions s w c.requires.ready n c.args.moves.now.items c.args.moves.now.items left (stack_of c.put_way.new.todo.items) (todo_of c.args.next) _ (ap todo_of c.in-Row.is)
    (row_written g functions s w c.requires.ready n c.args.moves.now.items left (stack_of c.put_way.new.todo.items) at.entrance.function at.entrance.state.0 at.pos.0 at.state.0
    (way_of c.in-Some.row.way) (row_way c.args.store.now at c.in-Some.row c.in-Some.ensures) c.in_ok-put_way-in-Row.ensures)

pub returns-in_ok-put_call-in-Reach : goal.returns-in_ok-put_call-in-Reach
returns-in_ok-put_call-in-Reach c = λ n.
    let g = game_of c.args.game.now in
    let functions = length c.args.game.now.graph.parts.items in
    let s = found_of c.args.store.now in
    let w = ways_of c.args.store.now in
    let left = stack_of c.args.todo.now.items in
    let at = c.in-Reach.entrance in
    for_next g functions s w c.requires.ready n c.args.moves.now.items c.args.moves.now.items left (stack_of c.put_call.new.todo.items) (todo_of c.args.next) _ (ap todo_of c.in-Reach.is)
    (reach_written g functions s w c.requires.ready n c.args.moves.now.items left (stack_of c.put_call.new.todo.items) at.function at.state.0 (Some (caller_of c.in-Some-call.call))
    (group_call c.args.store.now at c.in-Some-group.entered (Some c.in-Some-call.call) c.in-Some-group.ensures c.in-Some-call.is) c.in_ok-put_call-in-Reach.ensures)

pub returns-in_default-call : goal.returns-in_default-call
returns-in_default-call c = λ n.
    let g = game_of c.args.game.now in
    let functions = length c.args.game.now.graph.parts.items in
    let s = found_of c.args.store.now in
    let w = ways_of c.args.store.now in
    let left = stack_of c.args.todo.now.items in
    let at = c.in-Reach.entrance in
    for_next g functions s w c.requires.ready n c.args.moves.now.items c.args.moves.now.items left left (todo_of c.args.next) _ (ap todo_of c.in-Reach.is)
    (reach_written g functions s w c.requires.ready n c.args.moves.now.items left left at.function at.state.0 None
    (group_call c.args.store.now at c.in-Some-group.entered None c.in-Some-group.ensures c.in_default-call.is) refl)
