use Rattle.std.proofs.Common.{◌∙◌}
use Rattle.std.proofs.lemmas.List.{get_or_default}
use Rattle.cw_text.proofs.Numbered.{numbered_step, one_more}
use Rattle.cw_resolve.specs.Held.{lists}
use Rattle.cw_listing.specs.Listing.{point_line}
use Rattle.cw_listing.proofs.listing.put_points.Goals as goal

pub loop-number-preserved : goal.loop-number-preserved
loop-number-preserved g c = record {
  text = one_more _ _ _ _ _ _ c.loop-number.invariant.text c.put_point.ensures.text
      (numbered_step (point_line (lists c.args.names.functions.now) (lists c.args.names.labels.now) (lists c.args.names.descriptors.now)) c.args.nodes.now c.loop-number.number _ c.loop-number-test.true
      (get_or_default c.args.nodes.now c.loop-number.number _ _ c.loop-number-test.true));
  begun = c.put_point.ensures.begun ∙ c.loop-number.invariant.begun;
  follows = c.put_point.ensures.follows;
}
