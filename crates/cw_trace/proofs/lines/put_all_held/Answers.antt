use Rattle.std.proofs.Common.{◌∙◌}
use Rattle.cw_rights.specs.Policies.{descriptor_of}
use Rattle.cw_trace.specs.Lines.{held_text}
use Rattle.cw_text.proofs.Numbered.{mapped_step, one_more}
use Rattle.cw_trace.proofs.lines.put_all_held.Goals as goal

pub loop-number-preserved : goal.loop-number-preserved
loop-number-preserved g c = record {
  text = one_more _ _ _ _ _ _ c.loop-number.invariant.text c.put_held.ensures.text
      (mapped_step (held_text c.args.caps.now) descriptor_of c.args.descriptors.now c.loop-number.number c.index-descriptors-number.result c.loop-number-test.true c.index-descriptors-number.is);
  begun = c.put_held.ensures.begun ∙ c.loop-number.invariant.begun;
  follows = c.put_held.ensures.follows;
}
