use Rattle.std.proofs.Common.{◌∙◌}
use Rattle.std.proofs.lemmas.List.{get_or_default}
use Rattle.cw_text.proofs.Numbered.{numbered_step, one_more}
use Rattle.cw_resolve.specs.Held.{lists}
use Rattle.cw_listing.specs.Listing.{function_line}
use Rattle.cw_listing.proofs.listing.put_functions.Goals as goal

pub loop-number-preserved : goal.loop-number-preserved
loop-number-preserved g c = record {
  text = one_more _ _ _ _ _ _ c.loop-number.invariant.text c.put_function.ensures.text
      (numbered_step (function_line (lists c.args.names.now) (lists c.args.calls.now)) c.args.parts.now c.loop-number.number _ c.loop-number-test.true
      (get_or_default c.args.parts.now c.loop-number.number _ _ c.loop-number-test.true));
  begun = c.put_function.ensures.begun ∙ c.loop-number.invariant.begun;
  follows = c.put_function.ensures.follows;
}
