use Rattle.std.proofs.Common.{◌≡◌, ℕ, List, length, map, sym, subst, arith, Vec}
use Rattle.std.specs.Prelude.{Contains}
use Rattle.std.specs.Global.{Global}
use Rattle.std.specs.Ordering.{nat_cmp}
use Rattle.cw_fixpoint.specs.Closures.{Exactly}
use Rattle.cw_product.specs.Product.{game_of}
use Rattle.cw_solve.specs.declared.contexts.Context.{Context}
use Rattle.cw_lazy_table.specs.Numbered.{ArePromises}
use Rattle.cw_lazy_table.specs.SeamKeys.{AreOf}
use Rattle.cw_lazy_table.proofs.Numbering.{are_promises, promise_more}
use Rattle.cw_lazy_table.proofs.Putting.{put_all, listed_of}
use Rattle.cw_lazy_table.proofs.promises.promises_of.Goals as goal
use Rattle.cw_lemmas.proofs.Options.{if_ok}

pub returns : goal.returns
returns c =
    let s = c.args.solved.now in
    let e : c.loop-number.number ≡ c.contexts-number-end.result = omega (arith, c.loop-number-test.false, c.loop-number.auto.number-end) in
    let n : c.contexts-number-end.result ≡ length s.contexts = c.contexts-number-end.ensures in
    let promises = map (λ (x : Context). x.promise) s.contexts in
    let all : AreOf (map (λ (x : Context). x.promise) s.contexts) c.deref.result.now =
    subst (λ (l : List ℕ). AreOf (map (λ (x : Context). x.promise) s.contexts) l) (sym c.deref.ensures.value)
    (put_all (λ (x : Context). x.promise) s.contexts c.loop-number.number c.loop-number.all.items (omega (arith, e, n)) c.loop-number.invariant) in
    if_ok (λ (v : Vec ℕ Global). Exactly nat_cmp (Contains c.deref.result.now) v.items) (λ (v : Vec ℕ Global). ArePromises (game_of c.args.game.now) v.items) c.ordered.result c.ordered.ensures
    (λ v x. are_promises c.args.game.now s c.requires.ready v.items (listed_of nat_cmp promises c.deref.result.now v.items all x))

pub loop-number-preserved : goal.loop-number-preserved
loop-number-preserved c =
    promise_more c.args.solved.now.contexts c.loop-number.number c.context.result.now c.loop-number.all.items c.put_promise.new.promises.items c.context.ensures c.loop-number.invariant
    c.in_ok-order.ensures
