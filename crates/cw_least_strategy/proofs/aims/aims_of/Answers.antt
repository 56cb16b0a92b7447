use Rattle.std.proofs.Common.{rules, ◌≡◌, ◌<◌, ℕ, List, length, map, ◌∙◌, ap, subst, arith, Vec}
use Rattle.std.specs.Prelude.{Contains}
use Rattle.std.specs.Global.{Global}
use Rattle.std.specs.Ordering.{nat_cmp}
use Rattle.std.proofs.lemmas.List.{take_all}
use Rattle.cw_fixpoint.specs.Closures.{Exactly}
use Rattle.cw_product.specs.Product.{Held, game_of}
use Rattle.cw_least_strategy.specs.Heights.{others}
use Rattle.cw_least_strategy.specs.Small.{AreAims}
use Rattle.cw_least_strategy.proofs.AllAims.{aim_in, aim_more, are_aims, fit}
use Rattle.cw_least_strategy.proofs.aims.aims_of.Goals as goal
use Rattle.cw_lemmas.proofs.Options.{if_ok}

pub loop-number-preserved : goal.loop-number-preserved
loop-number-preserved c =
    aim_more c.args.solved.now c.loop-number.number c.context.result.now c.others-aim.result c.loop-number.all.items c.push.new.self.items c.context.ensures
    (c.others-aim.ensures ∙ ap (λ (x : Held). others (game_of x) c.context.result.now.promise) c.game.ensures) c.loop-number.invariant c.in_ok-push.ensures.items

pub returns : goal.returns
returns c =
    let s = c.args.solved.now in
    let e : c.loop-number.number ≡ c.contexts-number-end.result = omega (arith, c.loop-number-test.false, c.loop-number.auto.number-end) in
    let n : c.contexts-number-end.result ≡ length s.contexts = c.contexts-number-end.ensures in
    let fits : c.contexts-number-end.result < 4294967296 = fit (search rules) in
    let all : c.deref.result.now ≡ map (aim_in s) s.contexts =
    c.deref.ensures.value ∙ c.loop-number.invariant ∙ ap (map (aim_in s)) (take_all c.loop-number.number s.contexts (omega (arith, e, n))) in
    if_ok (λ (v : Vec ℕ Global). Exactly nat_cmp (Contains c.deref.result.now) v.items) (λ (v : Vec ℕ Global). AreAims s v.items) c.ordered.result c.ordered.ensures
    (λ v x. are_aims s c.fact_contexts_are_needed.ensures (omega (arith, n, fits)) v.items (subst (λ (l : List ℕ). Exactly nat_cmp (Contains l) v.items) all x))
