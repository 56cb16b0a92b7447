use Rattle.std.proofs.Common.{ap, ◌∙◌, length, arith, option_map}
use Rattle.std.specs.Prelude.{slice_get}
use Rattle.cw_product.specs.Product.{Held, game_of}
use Rattle.cw_product.specs.Moves.{turn_in}
use Rattle.cw_solve.proofs.Turning.{turn_call, turn_visit}
use Rattle.cw_least_strategy.specs.Acts.{key_of}
use Rattle.cw_least_strategy.proofs.Acting.{pos_within}
use Rattle.cw_least_strategy.proofs.Looking.{visit_in}
use Rattle.cw_least_strategy.proofs.acts.act_at.Goals as goal

pub turn-requires : goal.turn-requires
turn-requires c =
    let g = game_of c.args.solved.now.game in
    rw c.game.ensures (pos_within g (key_of c.args.key.now) (length c.args.solved.now.game.graph.parts.items) c.requires.routed c.requires.key)

pub overflow_add-key : goal.overflow_add-key
overflow_add-key c =
    let g = game_of c.args.solved.now.game in
    let lt = pos_within g (key_of c.args.key.now) (length c.args.solved.now.game.graph.parts.items) c.requires.routed c.requires.key in
    let few = c.requires.routed.short in
    omega (arith, lt, few)

pub lower_pair-requires-clause-here : goal.lower_pair-requires-clause-here
lower_pair-requires-clause-here c =
    let g = game_of c.args.solved.now.game in
    let k = key_of c.args.key.now in
    let v = turn_visit g (slice_get g.spots k.pos) (c.in-Weaver.ensures ∙ ap (λ (x : Held). option_map (turn_in (game_of x)) (slice_get (game_of x).spots k.pos)) c.game.ensures) in
    (visit_in c.args.solved.now c.requires.routed c.args.number k.aim k.pos k.state v.0 v.1 v.2 c.requires.here v.3).0

pub lower_pair-requires-in-Weaver-clause-here : goal.lower_pair-requires-in-Weaver-clause-here
lower_pair-requires-in-Weaver-clause-here c =
    let g = game_of c.args.solved.now.game in
    let k = key_of c.args.key.now in
    let v = turn_visit g (slice_get g.spots k.pos) (c.in-Weaver.ensures ∙ ap (λ (x : Held). option_map (turn_in (game_of x)) (slice_get (game_of x).spots k.pos)) c.game.ensures) in
    (visit_in c.args.solved.now c.requires.routed c.args.number k.aim k.pos k.state v.0 v.1 v.2 c.requires.here v.3).1

pub into-requires-clause-call : goal.into-requires-clause-call
into-requires-clause-call c =
    let g = game_of c.args.solved.now.game in
    let k = key_of c.args.key.now in
    turn_call g (slice_get g.spots k.pos) c.in-Call.callee c.in-Call.split c.in-Call.back
    (c.in-Call.ensures ∙ ap (λ (x : Held). option_map (turn_in (game_of x)) (slice_get (game_of x).spots k.pos)) c.game.ensures)
