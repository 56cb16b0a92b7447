use Rattle.std.proofs.Common.{sym, ◌∙◌, arith, refl}
use Rattle.std.proofs.lemmas.Bool.{false≢true}
use Rattle.std.proofs.lemmas.Option.{none-some}
use Rattle.cw_links.proofs.Piles.{held, taken_known, takes, least, none_in}
use Rattle.cw_links.proofs.buckets.Buckets.take_least.Goals as goal

pub unlink-requires : goal.unlink-requires
unlink-requires c =
    let s = c.self.inside in
    taken_known s.links.lists s.links.cells c.in-Some.cell c.in-Some.height s.heights.items s.floor c.self.invariant c.in-Some.ensures.first c.in-Some.ensures.lowest

pub index_mut-requires : goal.index_mut-requires
index_mut-requires c =
    let s = c.self.inside in
    omega (arith, taken_known s.links.lists s.links.cells c.in-Some.cell c.in-Some.height s.heights.items s.floor c.self.invariant c.in-Some.ensures.first c.in-Some.ensures.lowest, c.self.invariant.known, s.heights.ok.0)

pub invariant_of-self : goal.invariant_of-self
invariant_of-self c =
    let s = c.self.inside in
    rw (c.unlink.ensures.lists, c.unlink.ensures.cells)
    (takes s.links.lists s.links.cells c.in-Some.cell c.in-Some.height s.heights.items s.floor c.self.invariant c.in-Some.ensures.first c.in-Some.ensures.lowest)

pub returns-in-Some-clause-none : goal.returns-in-Some-clause-none
returns-in-Some-clause-none c =
    let s = c.self.inside in (
      λ e. absurd (false≢true (sym e)),
      λ out. absurd (none-some c.in-Some.height (sym (out c.in-Some.cell) ∙ rw (← c.self.view_is) (held s.links.lists s.links.cells c.in-Some.cell c.in-Some.height s.heights.items s.floor c.self.invariant c.in-Some.ensures.first c.in-Some.ensures.lowest))),
    )

pub returns-in-Some-clause-held : goal.returns-in-Some-clause-held
returns-in-Some-clause-held c =
    let s = c.self.inside in
    rw (← c.self.view_is) (held s.links.lists s.links.cells c.in-Some.cell c.in-Some.height s.heights.items s.floor c.self.invariant c.in-Some.ensures.first c.in-Some.ensures.lowest)

pub returns-in-Some-clause-least : goal.returns-in-Some-clause-least
returns-in-Some-clause-least c =
    let s = c.self.inside in
    rw (← c.self.view_is) (least s.links.lists s.links.cells c.in-Some.cell c.in-Some.height s.heights.items s.floor c.self.invariant c.in-Some.ensures.first c.in-Some.ensures.lowest)

pub returns-in-None-clause-none : goal.returns-in-None-clause-none
returns-in-None-clause-none c =
    let s = c.self.inside in
    (λ _. rw (← c.self.view_is) (none_in s.links.lists s.links.cells s.heights.items s.floor c.self.invariant c.in-None.ensures.none), λ _. refl)
