use Rattle.std.proofs.Common.{◌≡◌, length, map, ◌∙◌, ap, arith}
use Rattle.std.specs.Ordering.{nat_cmp}
use Rattle.std.proofs.lemmas.List.{take_all}
use Rattle.cw_fixpoint.specs.Numbers.{number_in}
use Rattle.cw_product.specs.Product.{Held, game_of}
use Rattle.cw_least_strategy.specs.Heights.{others}
use Rattle.cw_least_strategy.specs.Numbered.{number_for}
use Rattle.cw_least_strategy.proofs.Numbered.{number_more}
use Rattle.cw_least_strategy.proofs.contexts.numbers_of.Goals as goal

pub loop-number-preserved : goal.loop-number-preserved
loop-number-preserved c =
    let aims = c.args.aims.now in
    number_more c.args.solved.now aims c.loop-number.number c.context.result.now c.aim_number.result c.loop-number.numbers.items c.push.new.self.items c.context.ensures
    (c.aim_number.ensures ∙ ap (number_in nat_cmp aims) (c.others-aim.ensures ∙ ap (λ (x : Held). others (game_of x) c.context.result.now.promise) c.game.ensures)) c.loop-number.invariant
    c.in_ok-push.ensures.items

pub returns : goal.returns
returns c =
    let s = c.args.solved.now in
    let e : c.loop-number.number ≡ c.contexts-number-end.result = omega (arith, c.loop-number-test.false, c.loop-number.auto.number-end) in
    let n : c.contexts-number-end.result ≡ length s.contexts = c.contexts-number-end.ensures in
    c.loop-number.invariant ∙ ap (map (number_for s c.args.aims.now)) (take_all c.loop-number.number s.contexts (omega (arith, e, n)))
