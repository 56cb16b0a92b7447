use Rattle.std.proofs.Common.{◌≡◌, ℕ, sym, ap, ◌∙◌, arith}
use Rattle.std.specs.Prelude.{slice_index}
use Rattle.std.proofs.lemmas.List.{get_or_default}
use Rattle.cw_links.proofs.Spreads.{spread_flagged}
use Rattle.cw_links.specs.Stores.{Stored}
use Rattle.cw_links.proofs.store.Store.linked.Goals as goal

pub returns-clause-list : goal.returns-clause-list
returns-clause-list c =
    let s = c.self.inside in
    let index = c.index.result in
    c.to.ensures ∙ ap (λ (y : ℕ). slice_index s.callers.to y) (sym c.index.ensures.before) ∙ sym (spread_flagged s.flags s.callers.to index c.index.ensures.flagged)
    ∙ ap (λ (v : Stored). slice_index v.to index) c.self.view_is

pub returns-clause-moves : goal.returns-clause-moves
returns-clause-moves c =
    let s = c.self.inside in
    let index = c.index.result in
    let link = c.args.link in
    let within = rw (← c.self.view_is) at c.requires in
    let value : c.index-2.result.now ≡ slice_index s.waves.items link
    = c.index-2.ensures ∙ get_or_default s.waves.items link c.index-2.result.now 0 (omega (arith, within, c.self.invariant.waves_of_links)) in
    value ∙ ap (λ (y : ℕ). slice_index s.waves.items y) (sym c.index.ensures.before) ∙ sym (spread_flagged s.flags s.waves.items index c.index.ensures.flagged)
    ∙ ap (λ (v : Stored). slice_index v.waves index) c.self.view_is
