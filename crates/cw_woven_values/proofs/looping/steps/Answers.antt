use Rattle.std.proofs.Common.{◌≤◌, ◌<◌, Option, Result, Ok, Err, map, subst, arith}
use Rattle.cw_product.specs.Product.{game_of}
use Rattle.cw_run.specs.Walks.{wait_of}
use Rattle.cw_value.specs.Runs.{most_steps}
use Rattle.cw_eval.specs.declared.halt.Halt.{Halt}
use Rattle.cw_starts.specs.Sources.{source_in}
use Rattle.cw_woven_values.specs.declared.stepping.Stand.{Stand}
use Rattle.cw_woven_values.specs.declared.visiting.Front.{Front}
use Rattle.cw_woven_values.specs.Visiting.{Weaving}
use Rattle.cw_woven_values.specs.Stepping.{IsWent, Steps}
use Rattle.cw_woven_values.proofs.Lasting.{leads_quits, leads_spent, leads_on, leads_over, leads_stop}
use Rattle.cw_woven_values.proofs.looping.steps.Goals as goal

pub returns-in-Stopped : goal.returns-in-Stopped
returns-in-Stopped c = λ w woven is_run st.
    let h = c.args.game.now in
    let s = source_in c.args.run.now.known.source in
    let t = c.args.table.now in
    let waits = map wait_of c.loop-i.waits.items in
    let left = c.weave.new.tries.left.now in
    let made = c.weave.new.tries.made in
    let l = c.loop-i.invariant.leads w woven is_run st in
    let k = l.1 in
    let q = subst (λ (f : Front). Weaving h s t w k.plain waits left made l.0 f) c.in-Stopped.is (c.weave.ensures.weaves s w waits k.plain l.0 k.weaves k.fresh) in
    leads_quits h s t w c.loop-i.stand c.loop-i.m waits c.loop-i.tries.left.now c.loop-i.tries.made woven c.loop-i.i l c.loop-i-test.true left made c.in-Stopped.seam q

pub returns-in-Ok-None : goal.returns-in-Ok-None
returns-in-Ok-None c = λ w woven is_run st.
    let h = c.args.game.now in
    let s = source_in c.args.run.now.known.source in
    let t = c.args.table.now in
    let waits = map wait_of c.loop-i.waits.items in
    let waits2 = map wait_of c.go.new.waits.items in
    let left = c.weave.new.tries.left.now in
    let made = c.weave.new.tries.made in
    let l = c.loop-i.invariant.leads w woven is_run st in
    let k = l.1 in
    let a = subst (λ (f : Front). Weaving h s t w k.plain waits left made l.0 f) c.in-Free.is (c.weave.ensures.weaves s w waits k.plain l.0 k.weaves k.fresh) in
    let e = subst (λ (r : Result (Option Stand) Halt). Steps h s t w waits2 left made a.0 c.go.new.m r) c.in-Ok-None.is
    (c.go.ensures.steps w left made k.plain a.0 is_run k.stands a.1.weaves a.1.free) in
    leads_over h s t w c.loop-i.stand c.loop-i.m waits c.loop-i.tries.left.now c.loop-i.tries.made woven c.loop-i.i l c.loop-i-test.true c.in-Free.here left made a.0 a.1 waits2 c.go.new.m
    (subst (λ (o : Option Stand). Steps h s t w waits2 left made a.0 c.go.new.m (Ok o)) c.in-Ok-None.field-0-is e)

pub returns-in-Err-Stop : goal.returns-in-Err-Stop
returns-in-Err-Stop c = λ w woven is_run st.
    let h = c.args.game.now in
    let s = source_in c.args.run.now.known.source in
    let t = c.args.table.now in
    let waits = map wait_of c.loop-i.waits.items in
    let waits2 = map wait_of c.go.new.waits.items in
    let left = c.weave.new.tries.left.now in
    let made = c.weave.new.tries.made in
    let l = c.loop-i.invariant.leads w woven is_run st in
    let k = l.1 in
    let a = subst (λ (f : Front). Weaving h s t w k.plain waits left made l.0 f) c.in-Free.is (c.weave.ensures.weaves s w waits k.plain l.0 k.weaves k.fresh) in
    let e = subst (λ (r : Result (Option Stand) Halt). Steps h s t w waits2 left made a.0 c.go.new.m r) c.in-Err-Stop.is
    (c.go.ensures.steps w left made k.plain a.0 is_run k.stands a.1.weaves a.1.free) in
    leads_stop h s t w c.loop-i.stand c.loop-i.m waits c.loop-i.tries.left.now c.loop-i.tries.made woven c.loop-i.i l c.loop-i-test.true c.in-Free.here left made a.0 a.1 waits2 c.go.new.m
    c.in-Err-Stop.stop
    (subst (λ (x : Halt). Steps h s t w waits2 left made a.0 c.go.new.m (Err x)) c.in-Err-Stop.field-0-is e)

pub loop-i-preserved : goal.loop-i-preserved
loop-i-preserved c = record {
  below = (let below : c.loop-i.i < most_steps = c.loop-i-test.true in omega arith);
  few = let few = c.loop-i.invariant.few in let more = c.weave.ensures.made in omega arith;
  here = subst (λ (o : Option Stand). IsWent (game_of c.args.game.now) (Ok o)) c.in-Ok-Some.field-0-is c.in-Ok-Some.ensures.range;
  waits = c.go.ensures.waits;
  leads = λ w woven is_run st.
      let h = c.args.game.now in
      let s = source_in c.args.run.now.known.source in
      let t = c.args.table.now in
      let waits = map wait_of c.loop-i.waits.items in
      let waits2 = map wait_of c.go.new.waits.items in
      let left = c.weave.new.tries.left.now in
      let made = c.weave.new.tries.made in
      let l = c.loop-i.invariant.leads w woven is_run st in
      let k = l.1 in
      let a = subst (λ (f : Front). Weaving h s t w k.plain waits left made l.0 f) c.in-Free.is (c.weave.ensures.weaves s w waits k.plain l.0 k.weaves k.fresh) in
      let e = subst (λ (r : Result (Option Stand) Halt). Steps h s t w waits2 left made a.0 c.go.new.m r) c.in-Ok-Some.is
      (c.go.ensures.steps w left made k.plain a.0 is_run k.stands a.1.weaves a.1.free) in
      leads_on h s t w c.loop-i.stand c.loop-i.m waits c.loop-i.tries.left.now c.loop-i.tries.made woven c.loop-i.i l c.loop-i-test.true c.in-Free.here left made a.0 a.1 waits2 c.go.new.m
      c.in-Ok-Some.next
      (subst (λ (o : Option Stand). Steps h s t w waits2 left made a.0 c.go.new.m (Ok o)) c.in-Ok-Some.field-0-is e);
}

pub returns : goal.returns
returns c = λ w woven is_run st.
    let h = c.args.game.now in
    let s = source_in c.args.run.now.known.source in
    let l = c.loop-i.invariant.leads w woven is_run st in
    let past : most_steps ≤ c.loop-i.i = c.loop-i-test.false in
    leads_spent h s c.args.table.now w c.loop-i.stand c.loop-i.m (map wait_of c.loop-i.waits.items) c.loop-i.tries.left.now c.loop-i.tries.made woven c.loop-i.i l past
