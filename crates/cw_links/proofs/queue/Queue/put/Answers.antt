use Rattle.std.proofs.Common.{◌≡◌, ℕ, ◌+◌, ◌-◌, ◌<◌, ◌++◌, List, [], length, set, replicate, sym, ap, ◌∙◌, subst, arith}
use Rattle.std.proofs.lemmas.List.{length-append, length-replicate}
use Rattle.cw_links.specs.Lists.{list_at, without, with_front}
use Rattle.cw_links.specs.Queues.{Puts, stacks_of}
use Rattle.cw_links.proofs.Stacks.{puts_stack, puts_queue}
use Rattle.cw_links.proofs.queue.Queue.put.Goals as goal

there : (ls : List (List ℕ)) (key : ℕ) → key < length (ls ++ replicate (key + 1 - length ls) [])
there ls key = omega (arith, length-append ls (replicate (key + 1 - length ls) []), length-replicate {A = List ℕ} (key + 1 - length ls) [])

pub invariant_of-self-2 : goal.invariant_of-self-2
invariant_of-self-2 c =
    let els = c.spare_entry.new.elements.items in
    let ls = c.spare_entry.new.links.lists in
    rw (c.move_to.ensures.lists, c.move_to.ensures.cells, c.in_ok-reach.ensures.lists, c.reach.ensures.cells, c.spare_entry.ensures.known, c.min-self-inside.ensures)
    (puts_queue els ls (c.args.key + 1 - length ls) c.in_ok-entry.entry c.args.key c.args.element (omega (arith, c.in_ok-entry.ensures.within, c.spare_entry.ensures.known)) c.requires
    (there ls c.args.key) c.in_ok-entry.ensures.unkeyed c.self.inside.floor c.self.invariant.above
    (c.in_ok-entry.ensures.others ∙ c.spare_entry.ensures.known)
    (λ k lt. ap (λ (ss : List (List ℕ)). list_at ss k) c.spare_entry.ensures.kept ∙ c.self.invariant.lowest k lt))

pub returns-clause-put : goal.returns-clause-put
returns-clause-put c =
    let els = c.spare_entry.new.elements.items in
    let ls = c.spare_entry.new.links.lists in
    let entry = c.in_ok-entry.entry in
    let key = c.args.key in
    let v = c.args.element in
    let to : c.move_to.new.self.lists ≡ with_front (without (ls ++ replicate (key + 1 - length ls) []) entry) key entry
    = c.move_to.ensures.lists ∙ ap (λ (ms : List (List ℕ)). with_front (without ms entry) key entry) c.in_ok-reach.ensures.lists in
    subst (λ (old : List (List ℕ)). Puts old (stacks_of (set els entry v) c.move_to.new.self.lists) v key) (c.spare_entry.ensures.kept ∙ c.self.view_is)
    (subst (λ (ms : List (List ℕ)). Puts (stacks_of els ls) (stacks_of (set els entry v) ms) v key) (sym to)
    (puts_stack els ls (key + 1 - length ls) entry key v (omega (arith, c.in_ok-entry.ensures.within, c.spare_entry.ensures.known)) c.requires (there ls key) c.in_ok-entry.ensures.unkeyed))
