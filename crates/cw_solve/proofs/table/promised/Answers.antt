use Rattle.std.proofs.Common.{◌≡◌, ap, ◌∙◌, nat_lt, ◌&&◌, arith}
use Rattle.cw_core.specs.StateSet.{has}
use Rattle.cw_game.specs.Pairs.{kept_at}
use Rattle.cw_product.specs.Product.{game_of}
use Rattle.cw_solve.specs.Contexts.{promise_at}
use Rattle.cw_solve.proofs.table.promised.Goals as goal

pub returns : goal.returns
unfolding has
returns c =
    let e : c.loop-x.x ≡ c.states-x-end.result = omega (arith, c.loop-x-test.false, c.loop-x.auto.x-end) in
    λ x. c.loop-x.invariant x
    ∙ ap (λ k. nat_lt x k && promise_at (game_of c.args.game.now) c.args.n c.args.back.0 (kept_at c.args.split c.args.call.0) c.args.at.now.context.promise x) (e ∙ c.states-x-end.ensures)
