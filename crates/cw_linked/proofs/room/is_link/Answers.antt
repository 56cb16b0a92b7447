use Rattle.std.proofs.Common.{◌≡◌, sym, ap, ◌∙◌}
use Rattle.std.specs.Prelude.{slice_get}
use Rattle.std.proofs.lemmas.Bool.{eq-eqb}
use Rattle.cw_game.specs.Pairs.{Called}
use Rattle.cw_product.specs.Product.{game_of}
use Rattle.cw_linked.specs.Founds.{class_of}
use Rattle.cw_linked.proofs.Taking.{one_call}
use Rattle.cw_linked.proofs.room.is_link.Goals as goal

pub returns-in-None : goal.returns-in-None
returns-in-None c call is class = absurd (c.in-None.ensures.none call is)

pub returns-in-Some : goal.returns-in-Some
returns-in-Some c call is class =
    let g = game_of c.args.game.now in
    let s = c.in-Some.ensures.some in
    let same : c.in-Some.class.0 ≡ c.args.state.0
    = sym s.2 ∙ ap (λ (y : Called). class_of g y.split c.args.state.0) (one_call (slice_get g.spots c.args.pos.0) s.0 call s.1 is) ∙ class in
    eq-eqb c.in-Some.class.0 c.args.state.0 same
