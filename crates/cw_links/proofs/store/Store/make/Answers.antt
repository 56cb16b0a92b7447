use Rattle.cw_links.proofs.Spreading.{none_stored}
use Rattle.cw_links.proofs.store.Store.make.Goals as goal

pub invariant_of-result : goal.invariant_of-result
invariant_of-result c =
    none_stored c.make.result c.in_ok-make.field-0 c.in_ok-make-2.field-0 c.new.result.items c.make.ensures.empty c.in_ok-make.ensures.asked c.in_ok-make.ensures.due c.in_ok-make-2.ensures.to c.new.ensures.items
