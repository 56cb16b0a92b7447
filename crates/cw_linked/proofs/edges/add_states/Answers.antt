use Rattle.std.proofs.Common.{◌<◌, length, ap, ◌∙◌, arith}
use Rattle.std.proofs.lemmas.Nat.{mul-add-lt}
use Rattle.cw_product.specs.Product.{game_of}
use Rattle.cw_linked.specs.Edges.{refusal}
use Rattle.cw_linked.proofs.Edging.{a_pair_more, a_position_more}
use Rattle.cw_linked.proofs.Reaching.{no_keeper}
use Rattle.cw_linked.proofs.edges.add_states.Goals as goal

pub add_moves-requires-clause-flagged : goal.add_moves-requires-clause-flagged
add_moves-requires-clause-flagged c r x =
    c.requires.flagged.leads c.args.pos.0 c.loop-q.q r x c.requires.position (omega (arith, c.states-q-end.ensures, c.loop-q-test.true)) (no_keeper _ c.requires.changing)

pub add_moves-requires-clause-changing : goal.add_moves-requires-clause-changing
add_moves-requires-clause-changing c = no_keeper _ c.requires.changing

pub add_moves-requires-clause-few : goal.add_moves-requires-clause-few
add_moves-requires-clause-few c =
    let g = game_of c.args.game.now in
    let state : c.loop-q.q < g.states.count = omega (arith, c.states-q-end.ensures, c.loop-q-test.true) in
    let before = mul-add-lt c.args.pos.0 g.states.count c.loop-q.q (length g.spots) c.requires.position state in
    omega (arith, before, c.loop-q.invariant.few, c.requires.routed.pairs)

pub add_moves-requires-clause-refuses : goal.add_moves-requires-clause-refuses
add_moves-requires-clause-refuses c = c.refusal-refuses.ensures ∙ ap (refusal (game_of c.args.game.now)) c.requires.spot

pub loop-q-preserved : goal.loop-q-preserved
loop-q-preserved c =
    a_pair_more (game_of c.args.game.now) c.args.flags.now c.loop-q.pairs c.add_moves.new.pairs c.args.pos.0 c.loop-q.q c.loop-q.invariant c.in_ok-add_moves.ensures

pub returns : goal.returns
returns c =
    a_position_more (game_of c.args.game.now) c.args.flags.now c.loop-q.pairs c.args.pos.0 c.loop-q.q
    (omega (arith, c.states-q-end.ensures, c.loop-q-test.false, c.loop-q.auto.q-end)) c.loop-q.invariant
