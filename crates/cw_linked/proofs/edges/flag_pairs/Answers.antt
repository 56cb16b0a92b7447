use Rattle.std.proofs.Common.{◌<◌, ℕ, Option, Some, length, sym, subst, ap, ◌∙◌, arith}
use Rattle.std.specs.Prelude.{IfSome}
use Rattle.cw_game.specs.declared.spots.Spot.{Spot}
use Rattle.cw_product.specs.Product.{game_of}
use Rattle.cw_linked.specs.Edges.{first_target, second_target}
use Rattle.cw_linked.proofs.Reaching.{first_within, second_within, a_position_flagged}
use Rattle.cw_linked.proofs.edges.flag_pairs.Goals as goal

pub first_target-requires : goal.first_target-requires
first_target-requires c = omega (arith, c.requires.position, c.requires.short)

pub second_target-requires : goal.second_target-requires
second_target-requires c = omega (arith, c.requires.position, c.requires.short)

pub flag_target-requires : goal.flag_target-requires
flag_target-requires c =
    let g = game_of c.args.game.now in
    let leads = c.fact_is_closed.ensures.leads c.args.pos.0 c.spot-spot.result (sym c.spot-spot.ensures) in
    subst (λ (o : Option ℕ). IfSome o (λ r. r < length c.args.flags.now)) (sym c.first_target.ensures)
    (subst (λ (n : ℕ). IfSome (first_target c.args.pos.0 (Some c.spot-spot.result)) (λ r. r < n)) (sym c.requires.before.long)
    (first_within (length g.spots) (length c.args.game.now.graph.parts.items) c.args.pos.0 c.spot-spot.result leads))

pub flag_target-requires-2 : goal.flag_target-requires-2
flag_target-requires-2 c =
    let g = game_of c.args.game.now in
    let leads = c.fact_is_closed.ensures.leads c.args.pos.0 c.spot-spot.result (sym c.spot-spot.ensures) in
    subst (λ (o : Option ℕ). IfSome o (λ r. r < length c.flag_target.new.flags)) (sym c.second_target.ensures)
    (subst (λ (n : ℕ). IfSome (second_target c.args.pos.0 (Some c.spot-spot.result)) (λ r. r < n)) (sym (c.flag_target.ensures.long ∙ c.requires.before.long))
    (second_within (length g.spots) (length c.args.game.now.graph.parts.items) c.args.pos.0 c.spot-spot.result leads))

pub returns : goal.returns
returns c =
    let g = game_of c.args.game.now in
    let p = c.args.pos.0 in
    a_position_flagged g c.args.flags.now c.flag_target.new.flags c.flag_target-2.new.flags p c.first_target.result c.second_target.result c.requires.before
    (c.first_target.ensures ∙ ap (λ (o : Option Spot). first_target p o) c.spot-spot.ensures) (c.second_target.ensures ∙ ap (λ (o : Option Spot). second_target p o) c.spot-spot.ensures)
    c.flag_target.ensures c.flag_target-2.ensures
