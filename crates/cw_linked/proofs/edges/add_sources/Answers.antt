use Rattle.std.proofs.Common.{◌<◌, ℕ, Option, Some, length, sym, ap, ◌∙◌, subst, arith}
use Rattle.std.specs.Prelude.{slice_get, IfSome}
use Rattle.cw_game.specs.declared.spots.Spot.{Spot}
use Rattle.cw_product.specs.Product.{game_of}
use Rattle.cw_linked.specs.declared.edges.Source.{Source}
use Rattle.cw_linked.specs.Edges.{first_kept, second_kept}
use Rattle.cw_linked.specs.Waiting.{IsStepTo, IsVisit}
use Rattle.cw_linked.proofs.Sourcing.{first_steps, second_steps, first_inside, second_inside, both_in}
use Rattle.cw_linked.proofs.edges.add_sources.Goals as goal

pub first_kept-requires : goal.first_kept-requires
first_kept-requires c = omega (arith, c.requires.position, c.requires.routed.short)

pub second_kept-requires : goal.second_kept-requires
second_kept-requires c = omega (arith, c.requires.position, c.requires.routed.short)

pub add_source-requires-clause-within : goal.add_source-requires-clause-within
add_source-requires-clause-within c =
    let g = game_of c.args.game.now in
    let leads = c.fact_is_closed.ensures.leads c.args.pos.0 c.spot-spot.result (sym c.spot-spot.ensures) in
    subst (λ (o : Option ℕ). IfSome o (λ r. r < length c.args.sources.now.lists)) (sym c.first_kept.ensures)
    (subst (λ (n : ℕ). IfSome (first_kept c.args.pos.0 (Some c.spot-spot.result)) (λ r. r < n)) (sym c.requires.before.lists)
    (first_inside (length g.spots) (length c.args.game.now.graph.parts.items) c.args.pos.0 c.spot-spot.result leads))

pub add_source-requires-clause-step : goal.add_source-requires-clause-step
add_source-requires-clause-step c r e =
    let g = game_of c.args.game.now in
    let o = slice_get g.spots c.args.pos.0 in
    subst (λ (y : Source). IsStepTo g y r) (sym c.as_source-source.ensures)
    (first_steps c.args.pos.0 r o (ap (λ (y : Option Spot). first_kept c.args.pos.0 y) (sym c.spot-spot.ensures) ∙ sym c.first_kept.ensures ∙ e))

pub add_source-requires-clause-visit : goal.add_source-requires-clause-visit
add_source-requires-clause-visit c = subst (λ (y : Source). IsVisit (game_of c.args.game.now) y) (sym c.as_source-source.ensures) (λ k. k)

pub add_source-requires-2-clause-within : goal.add_source-requires-2-clause-within
add_source-requires-2-clause-within c =
    let g = game_of c.args.game.now in
    let leads = c.fact_is_closed.ensures.leads c.args.pos.0 c.spot-spot.result (sym c.spot-spot.ensures) in
    subst (λ (o : Option ℕ). IfSome o (λ r. r < length c.add_source.new.sources.lists)) (sym c.second_kept.ensures)
    (subst (λ (n : ℕ). IfSome (second_kept c.args.pos.0 (Some c.spot-spot.result)) (λ r. r < n)) (sym (c.in_ok-add_source.ensures.lists ∙ c.requires.before.lists))
    (second_inside (length g.spots) (length c.args.game.now.graph.parts.items) c.args.pos.0 c.spot-spot.result leads))

pub add_source-requires-2-clause-step : goal.add_source-requires-2-clause-step
add_source-requires-2-clause-step c r e =
    let g = game_of c.args.game.now in
    let o = slice_get g.spots c.args.pos.0 in
    subst (λ (y : Source). IsStepTo g y r) (sym c.as_source-source.ensures)
    (second_steps c.args.pos.0 r o (ap (λ (y : Option Spot). second_kept c.args.pos.0 y) (sym c.spot-spot.ensures) ∙ sym c.second_kept.ensures ∙ e))

pub add_source-requires-2-clause-visit : goal.add_source-requires-2-clause-visit
add_source-requires-2-clause-visit c = subst (λ (y : Source). IsVisit (game_of c.args.game.now) y) (sym c.as_source-source.ensures) (λ k. k)

pub returns : goal.returns
returns c =
    let g = game_of c.args.game.now in
    let p = c.args.pos.0 in
    both_in g c.args.sources.now c.add_source.new.sources c.add_source-2.new.sources p c.as_source-source.result c.first_kept.result c.second_kept.result c.as_source-source.ensures
    (c.first_kept.ensures ∙ ap (λ (o : Option Spot). first_kept p o) c.spot-spot.ensures) (c.second_kept.ensures ∙ ap (λ (o : Option Spot). second_kept p o) c.spot-spot.ensures)
    c.requires.before c.in_ok-add_source.ensures c.in_ok-add_source-2.ensures
