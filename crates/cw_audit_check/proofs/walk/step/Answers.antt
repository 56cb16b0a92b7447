use Rattle.std.proofs.Common.{length}
use Rattle.std.specs.Prelude.{slice_get}
use Rattle.cw_product.specs.Product.{game_of}
use Rattle.cw_audit_check.proofs.Judged.{call_within}
use Rattle.cw_audit_check.proofs.walk.step.Goals as goal

pub enter-requires-clause-callee : goal.enter-requires-clause-callee
enter-requires-clause-callee c =
    let g = game_of c.args.game.now in
    let p = c.args.walk.now.pos.0 in
    (call_within g (length g.spots) (length c.args.game.now.graph.parts.items) p (slice_get g.spots p) c.in-Call.callee c.in-Call.split c.in-Call.back c.in-Call.ensures
    (λ s e. c.fact_is_closed.ensures.leads p s e)).0

pub enter-requires-clause-back : goal.enter-requires-clause-back
enter-requires-clause-back c =
    let g = game_of c.args.game.now in
    let p = c.args.walk.now.pos.0 in
    (call_within g (length g.spots) (length c.args.game.now.graph.parts.items) p (slice_get g.spots p) c.in-Call.callee c.in-Call.split c.in-Call.back c.in-Call.ensures
    (λ s e. c.fact_is_closed.ensures.leads p s e)).1
