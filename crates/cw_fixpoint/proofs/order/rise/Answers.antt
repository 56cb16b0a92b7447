use Rattle.std.proofs.Common.{arith}
use Rattle.cw_lemmas.proofs.Rising.{ascends_from}
use Rattle.cw_fixpoint.proofs.order.rise.Goals as goal

pub returns : goal.returns
returns g c = λ _.
    let all = c.loop-i-test.false in
    ascends_from g.met.T.Ord.total c.args.items.now (λ k d l. c.loop-i.invariant k d (omega (arith, l, all)))
