use Rattle.std.proofs.Common.{◌≡◌, ◌∙◌, arith}
use Rattle.cw_product.specs.Product.{game_of}
use Rattle.cw_solve.specs.Contexts.{returning}
use Rattle.cw_lazy_table.proofs.Looking.{promised_is, under}
use Rattle.cw_lazy_table.proofs.choice.promised.Goals as goal

pub returns : goal.returns
returns c =
    let e : c.loop-x.x ≡ c.states-x-end.result = omega (arith, c.loop-x-test.false, c.loop-x.auto.x-end) in
    promised_is (game_of c.args.game.now) c.args.call.0 c.args.promise.now (returning c.args.back.0 c.args.split) c.loop-x.set c.loop-x.x (e ∙ c.states-x-end.ensures) c.loop-x.invariant

pub number_of-number-requires : goal.number_of-number-requires
number_of-number-requires c = record { under = under c.args.game.now c.args.solved.now c.requires.ready c.args.back.0 c.args.promise.now c.requires.there }
