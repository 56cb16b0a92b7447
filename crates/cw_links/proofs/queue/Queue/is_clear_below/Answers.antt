use Rattle.std.proofs.Common.{◌≡◌, ◌<◌, ℕ, List, [], subst}
use Rattle.cw_links.specs.Lists.{list_at}
use Rattle.cw_links.specs.Queues.{HasLower}
use Rattle.cw_links.proofs.Stacks.{clear_below, clear_queue, has_lower}
use Rattle.cw_links.proofs.queue.Queue.is_clear_below.Goals as goal

pub invariant_of-self : goal.invariant_of-self
invariant_of-self c =
    let s = c.self.inside in
    rw c.max-self-inside.ensures (clear_queue s.elements.items s.links.lists s.links.cells s.floor c.args.key c.self.invariant (c.are_clear.ensures.clear c.if-not-are_clear.false))

pub returns-then-not-are_clear-clause-some : goal.returns-then-not-are_clear-clause-some
returns-then-not-are_clear-clause-some c _ =
    let s = c.self.inside in
    let some = c.are_clear.ensures.some c.if-not-are_clear.true in
    subst (λ (stacks : List (List ℕ)). HasLower stacks c.args.key) c.self.view_is
    (has_lower s.elements.items s.links.lists s.links.cells s.floor c.args.key c.self.invariant some.0 some.1 some.2 some.3)

pub returns-clause-clear : goal.returns-clause-clear
returns-clause-clear c _ =
    let s = c.self.inside in
    subst (λ (stacks : List (List ℕ)). (k : ℕ) → k < c.args.key → list_at stacks k ≡ []) c.self.view_is
    (clear_below s.elements.items s.links.lists s.links.cells s.floor c.args.key c.self.invariant (c.are_clear.ensures.clear c.if-not-are_clear.false))
