use Rattle.std.proofs.Common.{Bool, sym, ap, ◌∙◌}
use Rattle.std.specs.Prelude.{slice_get}
use Rattle.cw_product.specs.Product.{game_of}
use Rattle.cw_linked.specs.Founds.{class_of}
use Rattle.cw_linked.proofs.Turns.{turn_calls}
use Rattle.cw_linked.proofs.calls.class_at.Goals as goal

pub returns-in-Call-clause-some : goal.returns-in-Call-clause-some
returns-in-Call-clause-some c =
    let g = game_of c.args.game.now in
    let t = turn_calls g (slice_get g.spots c.args.pos.0) _ c.in-Call.split _ c.in-Call.ensures in
    (t.0, t.1, ap (λ (b : Bool). class_of g b c.args.state.0) t.2 ∙ sym c.returned.ensures.is)
