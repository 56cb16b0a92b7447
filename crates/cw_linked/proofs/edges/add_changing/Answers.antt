use Rattle.std.proofs.Common.{Some, sym, ap, ◌∙◌}
use Rattle.cw_game.specs.declared.spots.Spot.{Spot}
use Rattle.cw_product.specs.Product.{game_of}
use Rattle.cw_linked.specs.Grants.{asked_in}
use Rattle.cw_linked.proofs.Granting.{row_there}
use Rattle.cw_linked.proofs.edges.add_changing.Goals as goal

pub grants_at-requires-clause-asked : goal.grants_at-requires-clause-asked
grants_at-requires-clause-asked c = ap asked_in (sym c.spot-spot.ensures ∙ ap (λ (s : Spot). Some s) c.in-Asked.is)

pub add_states-requires-clause-grants : goal.add_states-requires-clause-grants
add_states-requires-clause-grants c =
    let asked = ap asked_in (sym c.spot-spot.ensures ∙ ap (λ (s : Spot). Some s) c.in-Asked.is) in
    row_there (game_of c.args.game.now) c.args.pos.0 c.grants_at.new.all.items c.in-Asked.prim c.in_ok-k-in-Asked.k c.index.result.now asked c.in_ok-k-in-Asked.ensures.all
    c.in_ok-k-in-Asked.ensures.there c.index.ensures
