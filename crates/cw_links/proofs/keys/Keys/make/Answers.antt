use Rattle.cw_links.proofs.Queueing.{none_queued}
use Rattle.cw_links.proofs.keys.Keys.make.Goals as goal

pub invariant_of-result : goal.invariant_of-result
invariant_of-result c = none_queued c.in_ok-make.field-0.asked c.new.result.items c.in_ok-make-2.field-0 c.in_ok-make.ensures.asked c.new.ensures.items c.in_ok-make-2.ensures
