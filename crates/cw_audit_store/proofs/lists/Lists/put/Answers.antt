use Rattle.std.proofs.Common.{ap, ◌∙◌}
use Rattle.indexmap.specs.IndexMap.{get}
use Rattle.cw_audit_store.specs.Stores.{entrance_eq}
use Rattle.cw_audit_store.specs.Listed.{items_in}
use Rattle.cw_audit_store.proofs.lists.Lists.put.Goals as goal

pub returns-in_ok-insert-in-None-clause-others : goal.returns-in_ok-insert-in-None-clause-others
returns-in_ok-insert-in-None-clause-others c = λ q e. ap items_in (c.in_ok-insert-in-None.ensures.updates.2 q e) ∙ ap (λ m. items_in (get entrance_eq m q)) c.get_mut.follows.holds-at-none
