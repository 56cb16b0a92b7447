use Rattle.std.proofs.Common.{◌∙◌}
use Rattle.std.specs.Prelude.{slice_get}
use Rattle.std.proofs.lemmas.Bool.{eqb-true}
use Rattle.cw_product.specs.Product.{game_of}
use Rattle.cw_linked.proofs.Turns.{turn_calls}
use Rattle.cw_linked.proofs.returns.returns_to.Goals as goal

pub returns-in-Call-clause-is : goal.returns-in-Call-clause-is
returns-in-Call-clause-is c same =
    let g = game_of c.args.game.now in
    let t = turn_calls g (slice_get g.spots c.args.pos.0) _ _ c.in-Call.back c.in-Call.ensures in
    (t.0, t.1, t.4 ∙ eqb-true c.in-Call.back.0 c.args.to.0 same)
