use Rattle.std.proofs.Common.{ℕ, List, sym, subst}
use Rattle.cw_links.specs.Keys.{AreQueued}
use Rattle.cw_links.proofs.Queueing.{cell_queued, link_queued}
use Rattle.cw_links.proofs.keys.Keys.pop.Goals as goal

pub invariant_of-self-then-element-eq0 : goal.invariant_of-self-then-element-eq0
invariant_of-self-then-element-eq0 c =
    let s = c.self.inside in
    let next = rw c.deref.ensures.value at c.in-Some.ensures.next in
    subst (λ (asked : List ℕ). AreQueued asked s.due.items c.next.new.queue) (sym c.take.ensures.asked)
    (cell_queued s.cells.asked s.due.items c.next.new.queue c.in-Some.element c.in-Some.key c.self.invariant.few_cells c.self.invariant.few_links next c.if-element-eq0.true)

pub invariant_of-self-else-element-eq0 : goal.invariant_of-self-else-element-eq0
invariant_of-self-else-element-eq0 c =
    let s = c.self.inside in
    let next = rw c.deref.ensures.value at c.in-Some.ensures.next in
    link_queued s.cells.asked s.due.items c.next.new.queue c.in-Some.element c.in-Some.key c.self.invariant.few_cells c.self.invariant.few_links next c.if-element-eq0.false
