use Rattle.std.proofs.Common.{ℕ, length, sym, ap, ◌∙◌, arith}
use Rattle.std.specs.Prelude.{slice_get}
use Rattle.cw_links.specs.Lists.{with_front}
use Rattle.cw_product.specs.Product.{game_of}
use Rattle.cw_linked.proofs.Edging.{a_return_more}
use Rattle.cw_linked.proofs.Promising.{back_within}
use Rattle.cw_linked.proofs.Turns.{turn_calls}
use Rattle.cw_linked.proofs.edges.add_return.Goals as goal

pub push_front-requires-clause-list : goal.push_front-requires-clause-list
push_front-requires-clause-list c =
    let g = game_of c.args.game.now in
    let t = turn_calls g (slice_get g.spots c.args.pos.0) _ _ c.in-Call.back c.in-Call.ensures in
    let back = back_within g (length c.args.game.now.graph.parts.items) c.args.pos.0 t.0 c.fact_is_closed.ensures.leads t.1 in
    omega (arith, back, t.4, c.requires.before.lists)

pub returns-in_ok-push_front-in-Call : goal.returns-in_ok-push_front-in-Call
returns-in_ok-push_front-in-Call c =
    let g = game_of c.args.game.now in
    let t = turn_calls g (slice_get g.spots c.args.pos.0) _ _ c.in-Call.back c.in-Call.ensures in
    let back = back_within g (length c.args.game.now.graph.parts.items) c.args.pos.0 t.0 c.fact_is_closed.ensures.leads t.1 in
    let old = c.args.returns.now in
    a_return_more g old c.push_front.new.self c.args.pos.0 t.0 c.requires.before t.1 c.requires.position back
    (c.in_ok-push_front-in-Call.ensures.lists ∙ ap (λ (y : ℕ). with_front old.lists y (length old.values)) (sym t.4))
    c.in_ok-push_front-in-Call.ensures.values
