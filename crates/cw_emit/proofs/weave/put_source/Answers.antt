use Rattle.std.proofs.Common.{◌≡◌, ◌∙◌, get_or}
use Rattle.std.proofs.lemmas.List.{get_or_default}
use Rattle.cw_rights.specs.Policies.{policy_of}
use Rattle.cw_syntax.specs.declared.marks.SeamMark.{SeamMark as Held}
use Rattle.cw_syntax.specs.declared.marks.MarkKind.TheVariants.{Entry}
use Rattle.cw_emit.proofs.OneMark.{woven_step, woven_end, order_now, regroup, last_piece}
use Rattle.cw_emit.proofs.weave.put_source.Goals as goal

pub loop-mark-preserved : goal.loop-mark-preserved
loop-mark-preserved g c =
    let m : Held = get_or c.args.marks.now c.loop-mark.mark-index (record { place = 0; seam = 0; kind = Entry }) in
    let is : m ≡ get_or c.args.marks.now c.loop-mark.mark-index m = get_or_default c.args.marks.now c.loop-mark.mark-index _ m c.loop-mark-test.true in
    record {
      whole = regroup _ _ _ _ _ _ _ _ (rw c.between.ensures at c.put.ensures.text) c.put_mark.ensures.text
          (woven_step (policy_of c.args.policy.now) c.args.source.now c.loop-mark.at c.args.marks.now c.loop-mark.mark-index m c.loop-mark-test.true is) c.loop-mark.invariant.whole;
      order = (order_now c.loop-mark.at _ c.args.marks.now c.loop-mark.mark-index m c.loop-mark-test.true is c.loop-mark.invariant.order).2;
      begun = c.put_mark.ensures.begun ∙ c.put.ensures.begun ∙ c.loop-mark.invariant.begun;
      follows = c.put_mark.ensures.follows;
    }

pub returns-clause-text : goal.returns-clause-text
returns-clause-text g c =
    last_piece _ _ _ _ _ (rw c.after.ensures at c.put-2.ensures.text)
    (woven_end (policy_of c.args.policy.now) c.args.source.now c.loop-mark.at c.args.marks.now c.loop-mark.mark-index c.loop-mark-test.false) c.loop-mark.invariant.whole
