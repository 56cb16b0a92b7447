use Rattle.std.proofs.Common.{◌≤◌, subst, arith}
use Rattle.cw_run.specs.Walks.{here_of}
use Rattle.cw_woven_values.specs.declared.visiting.Visited.{Visited}
use Rattle.cw_woven_values.specs.Visiting.{IsVisited, Visits}
use Rattle.cw_product.specs.Product.{game_of}
use Rattle.cw_woven_values.proofs.Weaving.{gone_none, gone_on, gone_free, gone_all, gone_quits}
use Rattle.cw_woven_values.proofs.visiting.weave.Goals as goal

pub loop-i-init : goal.loop-i-init
loop-i-init c = record {
  below = omega arith;
  few = omega arith;
  range = c.requires.here;
  gone = λ s w waits plain run on fresh. gone_none c.args.game.now s c.args.table.now w plain waits (here_of c.args.start) c.args.tries.now.left.now c.args.tries.now.made run on fresh;
}

pub returns-in-None-clause-weaves : goal.returns-in-None-clause-weaves
returns-in-None-clause-weaves c = λ s w waits plain run on fresh.
    let h = c.args.game.now in
    let t = c.args.table.now in
    let a = c.loop-i.invariant.gone s w waits plain run on fresh in
    let b =
    subst (λ (v : Visited). Visits h s t w plain waits c.visit.new.tries.left.now c.visit.new.tries.made a.0 v) c.in-None.is (c.visit.ensures.visits s w waits plain a.0 a.1.weaves a.1.calm)
    in (
      a.0,
      gone_free h s t w plain waits c.loop-i.i (here_of c.loop-i.here) c.loop-i.tries.left.now c.visit.new.tries.left.now c.loop-i.tries.made c.visit.new.tries.made run a.0 a.1 b,
    )

pub returns-in-Stopped-clause-weaves : goal.returns-in-Stopped-clause-weaves
returns-in-Stopped-clause-weaves c = λ s w waits plain run on fresh.
    let h = c.args.game.now in
    let t = c.args.table.now in
    let a = c.loop-i.invariant.gone s w waits plain run on fresh in
    let b =
    subst (λ (v : Visited). Visits h s t w plain waits c.visit.new.tries.left.now c.visit.new.tries.made a.0 v) c.in-Stopped.is (c.visit.ensures.visits s w waits plain a.0 a.1.weaves a.1.calm)
    in
    gone_quits h s t w plain waits c.loop-i.i (here_of c.loop-i.here) c.loop-i.tries.left.now c.visit.new.tries.left.now c.loop-i.tries.made c.visit.new.tries.made run a.0 c.in-Stopped.seam a.1 b

pub loop-i-preserved : goal.loop-i-preserved
loop-i-preserved c = record {
  below = omega arith;
  few = let few = c.loop-i.invariant.few in let more = c.visit.ensures.made in omega arith;
  range = subst (λ (v : Visited). IsVisited (game_of c.args.game.now) v) c.in-On.is c.visit.ensures.range;
  gone = λ s w waits plain run on fresh.
      let h = c.args.game.now in
      let t = c.args.table.now in
      let a = c.loop-i.invariant.gone s w waits plain run on fresh in
      let b =
      subst (λ (v : Visited). Visits h s t w plain waits c.visit.new.tries.left.now c.visit.new.tries.made a.0 v) c.in-On.is (c.visit.ensures.visits s w waits plain a.0 a.1.weaves a.1.calm)
      in (
        b.0,
        gone_on h s t w plain waits c.loop-i.i (here_of c.loop-i.here)
            (here_of c.in-On.next) c.loop-i.tries.left.now c.visit.new.tries.left.now c.loop-i.tries.made c.visit.new.tries.made run a.0 b.0 a.1 b.1,
      );
}

pub returns-clause-weaves : goal.returns-clause-weaves
returns-clause-weaves c = λ s w waits plain run on fresh.
    let a = c.loop-i.invariant.gone s w waits plain run on fresh in
    let past : 14 ≤ c.loop-i.i = c.loop-i-test.false in
    (a.0, gone_all c.args.game.now s c.args.table.now w plain waits c.loop-i.i (here_of c.loop-i.here) c.loop-i.tries.left.now c.loop-i.tries.made run a.0 past a.1)
