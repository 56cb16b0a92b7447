use Rattle.std.proofs.Common.{◌∙◌}
use Rattle.std.proofs.lemmas.List.{get_or_default}
use Rattle.cw_rights.specs.Policies.{policy_of}
use Rattle.cw_text.specs.LimitsText.{limit_text}
use Rattle.cw_text.proofs.Numbered.{numbered_step, one_more}
use Rattle.cw_text.proofs.limits.put_each_limit.Goals as goal

pub loop-index-preserved : goal.loop-index-preserved
loop-index-preserved g c = record {
  text = one_more _ _ _ _ _ _ c.loop-index.invariant.text c.put_limit.ensures.text
      (numbered_step (limit_text (policy_of c.args.policy.now)) c.args.limits.now c.loop-index.index _ c.loop-index-test.true
      (get_or_default c.args.limits.now c.loop-index.index _ _ c.loop-index-test.true));
  begun = c.put_limit.ensures.begun ∙ c.loop-index.invariant.begun;
  follows = c.put_limit.ensures.follows;
}
