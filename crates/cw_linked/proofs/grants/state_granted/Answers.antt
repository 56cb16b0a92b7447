use Rattle.std.proofs.Common.{sym, ap, Option, Some, None, subst}
use Rattle.std.specs.Prelude.{IfSome}
use Rattle.cw_core.specs.declared.ids.PosId.{PosId}
use Rattle.cw_core.specs.declared.ids.StateId.{StateId}
use Rattle.cw_product.specs.Moves.{IsPosition, IsState, numbers}
use Rattle.cw_product.specs.Product.{game_of}
use Rattle.cw_linked.specs.Grants.{state_of}
use Rattle.cw_linked.proofs.Granting.{is_grant}
use Rattle.cw_linked.proofs.grants.state_granted.Goals as goal

pub returns-in-None : goal.returns-in-None
returns-in-None c =
    is_grant (game_of c.args.game.now) c.args.pos.0 c.args.state.0 c.args.prim c.next.result None c.requires.asked c.next.ensures.is
    (ap (λ (o : Option (PosId × StateId)). state_of (numbers o)) (sym c.in-None.is)) tt

pub returns-in-Some : goal.returns-in-Some
returns-in-Some c =
    let g = game_of c.args.game.now in
    is_grant g c.args.pos.0 c.args.state.0 c.args.prim c.next.result (Some c.in-Some.next) c.requires.asked c.next.ensures.is
    (ap (λ (o : Option (PosId × StateId)). state_of (numbers o)) (sym c.in-Some.is))
    (subst (λ (o : Option (PosId × StateId)). IfSome o (λ r. IsPosition g r.0.0 × IsState g r.1.0)) c.in-Some.is c.next.ensures.within).1
