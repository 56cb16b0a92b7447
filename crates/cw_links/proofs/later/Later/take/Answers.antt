use Rattle.std.proofs.Common.{ℕ, List, refl, sym, subst}
use Rattle.std.proofs.lemmas.Bool.{false≢true}
use Rattle.cw_links.specs.Low.{joined}
use Rattle.cw_links.specs.Queues.{AreNone, Takes}
use Rattle.cw_links.proofs.Lows.{none_low, none_behind, none_joined, takes_low, takes_behind}
use Rattle.cw_links.proofs.Nearing.{some_still}
use Rattle.cw_links.proofs.later.Later.take.Goals as goal

pub returns-in-None-clause-none : goal.returns-in-None-clause-none
returns-in-None-clause-none c =
    let s = c.self.inside in (
      λ none. subst AreNone c.self.view_is (none_joined s.low s.queue (c.in-None.ensures.none.0 refl) (c.take-in-None.ensures.none.0 none)),
      λ all. c.take-in-None.ensures.none.1 (none_behind s.low s.queue c.self.invariant (subst AreNone (sym c.self.view_is) all)),
    )

pub returns-in-None-clause-taken : goal.returns-in-None-clause-taken
returns-in-None-clause-taken c =
    let s = c.self.inside in
    let new = c.take-in-None.new.self in
    some_still c.take-in-None.result (λ t h.
    subst (λ (ls : List (List ℕ)). Takes ls (joined c.take.new.self new) t.0 t.1) c.self.view_is
    (subst (λ (ls : List (List ℕ)). Takes (joined s.low s.queue) (joined ls new) t.0 t.1) (sym c.in-None.ensures.left)
    (takes_behind s.low s.queue new t.0 t.1 (c.in-None.ensures.none.0 refl) c.self.invariant h))) c.take-in-None.ensures.taken

pub returns-in-Some-clause-none : goal.returns-in-Some-clause-none
returns-in-Some-clause-none c =
    let s = c.self.inside in (
      λ e. absurd (false≢true (sym e)),
      λ all. c.in-Some.ensures.none.1 (none_low s.low s.queue (subst AreNone (sym c.self.view_is) all)),
    )

pub returns-in-Some-clause-taken : goal.returns-in-Some-clause-taken
returns-in-Some-clause-taken c =
    let s = c.self.inside in
    subst (λ (ls : List (List ℕ)). Takes ls (joined c.take.new.self s.queue) c.in-Some.element c.in-Some.key) c.self.view_is
    (takes_low s.low c.take.new.self s.queue c.in-Some.element c.in-Some.key c.take.ensures.keys c.in-Some.ensures.within c.in-Some.ensures.taken)
