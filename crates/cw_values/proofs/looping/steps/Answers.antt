use Rattle.std.proofs.Common.{◌-◌, ◌<◌, ◌≤◌, Option, Result, Err, subst, arith}
use Rattle.cw_core.specs.declared.ids.PointId.{PointId}
use Rattle.cw_eval.specs.declared.halt.Halt.{Halt}
use Rattle.cw_value.specs.Runs.{most_steps}
use Rattle.cw_starts.specs.Sources.{source_in}
use Rattle.cw_values.specs.declared.running.Onward.{Onward}
use Rattle.cw_values.specs.Stands.{Advances, Leads}
use Rattle.cw_values.proofs.Lasting.{leads_on, leads_stop, leads_over, leads_spent}
use Rattle.cw_values.proofs.looping.steps.Goals as goal

pub returns-in_default : goal.returns-in_default
returns-in_default c = λ policy g is_run h.
    let s = source_in c.args.run.now.known.source in
    leads_over policy s c.loop-i.m g (most_steps - c.loop-i.i)
    (subst (λ (o : Option PointId). Leads policy s o c.loop-i.m g (most_steps - c.loop-i.i)) c.in_default.is (c.loop-i.invariant.1 policy g is_run h))

pub returns-in-Err-Stop : goal.returns-in-Err-Stop
returns-in-Err-Stop c = λ policy g is_run h.
    let s = source_in c.args.run.now.known.source in
    leads_stop policy s c.loop-i.m c.advance.new.m c.in-Some.at c.in-Err-Stop.stop g c.loop-i.i c.loop-i-test.true
    (subst (λ (o : Option PointId). Leads policy s o c.loop-i.m g (most_steps - c.loop-i.i)) c.in-Some.is (c.loop-i.invariant.1 policy g is_run h))
    (λ now st.
    subst (λ (e : Halt). Advances policy s (Err e) c.advance.new.m now) c.in-Err-Stop.field-0-is
    (subst (λ (r : Result Onward Halt). Advances policy s r c.advance.new.m now) c.in-Err-Stop.is (c.advance.ensures policy now is_run st)))

pub loop-i-preserved : goal.loop-i-preserved
loop-i-preserved c = (
  (let below : c.loop-i.i < most_steps = c.loop-i-test.true in omega arith),
  λ policy g is_run h.
      let s = source_in c.args.run.now.known.source in
      leads_on policy s c.loop-i.m c.advance.new.m c.in-Some.at c.in-Ok.step g c.loop-i.i c.loop-i-test.true
      (subst (λ (o : Option PointId). Leads policy s o c.loop-i.m g (most_steps - c.loop-i.i)) c.in-Some.is (c.loop-i.invariant.1 policy g is_run h))
      (λ now st. subst (λ (r : Result Onward Halt). Advances policy s r c.advance.new.m now) c.in-Ok.is (c.advance.ensures policy now is_run st)),
)

pub returns-in-None : goal.returns-in-None
returns-in-None c = λ policy g is_run h.
    let s = source_in c.args.run.now.known.source in
    leads_over policy s c.loop-i.m g (most_steps - c.loop-i.i)
    (subst (λ (o : Option PointId). Leads policy s o c.loop-i.m g (most_steps - c.loop-i.i)) c.in-None.is (c.loop-i.invariant.1 policy g is_run h))

pub returns-in-Some-point : goal.returns-in-Some-point
returns-in-Some-point c = λ policy g is_run h.
    let s = source_in c.args.run.now.known.source in
    let past : most_steps ≤ c.loop-i.i = c.loop-i-test.false in
    leads_spent policy s c.loop-i.m c.in-Some-point.field-0 g (most_steps - c.loop-i.i) (omega arith)
    (subst (λ (o : Option PointId). Leads policy s o c.loop-i.m g (most_steps - c.loop-i.i)) c.in-Some-point.is (c.loop-i.invariant.1 policy g is_run h))
