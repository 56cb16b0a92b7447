use Rattle.std.proofs.Common.{◌≡◌, ℕ, true, subst}
use Rattle.std.specs.Prelude.{slice_index, Contains}
use Rattle.cw_links.specs.Lists.{list_at}
use Rattle.cw_links.specs.Flags.{is_flagged, rank}
use Rattle.cw_links.specs.Stores.{Stored}
use Rattle.cw_links.proofs.Spreading.{there_at}
use Rattle.cw_links.proofs.store.Store.first.Goals as goal

pub returns-clause-there : goal.returns-clause-there
returns-clause-there c =
    let s = c.self.inside in
    subst (λ (v : Stored). (index : ℕ) → is_flagged v.flags index ≡ true → Contains (list_at v.lists (slice_index v.to index)) (rank v.flags index)) c.self.view_is
    (there_at s.flags s.callers c.self.invariant.lists_of_links c.first.ensures.there)
