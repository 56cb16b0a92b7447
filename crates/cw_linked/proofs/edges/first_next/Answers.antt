use Rattle.std.proofs.Common.{sym, ap, ◌∙◌}
use Rattle.std.specs.Prelude.{slice_get}
use Rattle.cw_certs.specs.declared.moves.Move.{Move}
use Rattle.cw_product.specs.Moves.{next_at}
use Rattle.cw_product.specs.Product.{game_of}
use Rattle.cw_linked.specs.Grants.{AreGrantsAt}
use Rattle.cw_linked.proofs.Granting.{granted_first}
use Rattle.cw_linked.proofs.edges.first_next.Goals as goal

pub returns-in-Some-clause-is : goal.returns-in-Some-clause-is
returns-in-Some-clause-is c =
    let g = game_of c.args.game.now in
    let p = c.args.pos.0 in
    let own = c.in-Some.own.now in
    let at : AreGrantsAt g p own = rw c.in-Some.is at c.requires.grants in
    c.granted.ensures.is ∙ ap (λ (m : Move). next_at g p c.args.state.0 m) (sym (c.requires.by ∙ granted_first own.prim (slice_get g.spots p) at.asked))
