use Rattle.std.proofs.Common.{◌≡◌, ℕ, List, refl, sym, ◌∙◌, subst, arith}
use Rattle.std.specs.Prelude.{slice_index}
use Rattle.std.proofs.lemmas.Bool.{false≢true}
use Rattle.std.proofs.lemmas.List.{get_or_default}
use Rattle.cw_links.specs.Lists.{without, with_front}
use Rattle.cw_links.specs.Queues.{stacks_of, Takes}
use Rattle.cw_links.proofs.Stacks.{takes_stack, takes_queue, takes_some, none_left, none_above}
use Rattle.cw_links.proofs.queue.Queue.take.Goals as goal

pub invariant_of-self : goal.invariant_of-self
invariant_of-self c =
    let s = c.self.inside in
    let f = c.in-Some.ensures in
    rw (c.move_to.ensures.lists, c.move_to.ensures.cells)
    (takes_queue s.elements.items s.links.lists s.links.cells s.floor c.in-Some.entry c.in-Some.key c.self.invariant f.first f.from f.lowest f.apart)

pub invariant_of-self-in-None : goal.invariant_of-self-in-None
invariant_of-self-in-None c =
    let s = c.self.inside in
    rw c.lists-self-inside.ensures.value (none_above s.elements.items s.links.lists s.links.cells s.floor c.self.invariant c.in-None.ensures.none)

pub returns-in-Some-clause-none : goal.returns-in-Some-clause-none
returns-in-Some-clause-none c =
    let s = c.self.inside in
    let f = c.in-Some.ensures in (
      λ e. absurd (false≢true (sym e)),
      λ out. absurd (takes_some s.elements.items s.links.lists s.links.cells s.floor c.in-Some.entry c.in-Some.key c.self.invariant f.first f.from f.lowest f.apart (rw (← c.self.view_is) at out)),
    )

pub returns-in-Some-clause-taken : goal.returns-in-Some-clause-taken
returns-in-Some-clause-taken c =
    let s = c.self.inside in
    let f = c.in-Some.ensures in
    let entry = c.in-Some.entry in
    let t = takes_stack s.elements.items s.links.lists s.links.cells s.floor entry c.in-Some.key c.self.invariant f.first f.from f.lowest f.apart in
    let value : c.index.result.now ≡ slice_index s.elements.items entry
    = c.index.ensures ∙ get_or_default s.elements.items entry c.index.result.now 0 (omega (arith, f.known, c.self.invariant.known)) in
    subst (λ (old : List (List ℕ)). Takes old (stacks_of s.elements.items c.move_to.new.self.lists) c.index.result.now c.in-Some.key) c.self.view_is
    (subst (λ (ms : List (List ℕ)). Takes (stacks_of s.elements.items s.links.lists) (stacks_of s.elements.items ms) c.index.result.now c.in-Some.key) (sym c.move_to.ensures.lists)
    (subst (λ (v : ℕ). Takes (stacks_of s.elements.items s.links.lists) (stacks_of s.elements.items (with_front (without s.links.lists entry) 0 entry)) v c.in-Some.key) (sym value) t))

pub returns-in-None-clause-none : goal.returns-in-None-clause-none
returns-in-None-clause-none c =
    let s = c.self.inside in
    (λ _. rw (← c.self.view_is) (none_left s.elements.items s.links.lists s.links.cells s.floor c.self.invariant c.in-None.ensures.none), λ _. refl)
