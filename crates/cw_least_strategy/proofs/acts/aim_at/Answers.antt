use Rattle.std.proofs.Common.{◌≡◌, ap, ◌∙◌, arith}
use Rattle.cw_product.specs.Product.{Held, game_of}
use Rattle.cw_solve.specs.Contexts.{returning}
use Rattle.cw_least_strategy.specs.Acts.{key_of}
use Rattle.cw_least_strategy.proofs.Looking.{aim_is}
use Rattle.cw_least_strategy.proofs.acts.aim_at.Goals as goal

pub returns : goal.returns
returns c =
    let e : c.loop-x.x ≡ c.states-x-end.result = omega (arith, c.loop-x-test.false, c.loop-x.auto.x-end) in
    aim_is (game_of c.args.solved.now.game) (key_of c.args.key.now) (returning c.args.back.0 c.args.split) c.loop-x.aim c.loop-x.x
    (e ∙ c.states-x-end.ensures ∙ ap (λ (x : Held). (game_of x).states.count) c.game.ensures) c.loop-x.invariant
