-- The laws.
use Rattle.std.proofs.Common.{refl}
use Rattle.cw_audit_search.specs.Laws.{GamesAreFair, ListingsAreStated, CountedRowsAreStated, StatedRowsAreFound, CutHitsAreFar, WaysAreShown}
use Rattle.cw_audit_search.proofs.Fair.{is_fair}
use Rattle.cw_audit_search.proofs.Listed.{listing_is_good, listing_stated}
use Rattle.cw_audit_search.proofs.Ends.{stated_has, hits_cut}
use Rattle.cw_audit_search.proofs.Whole.{stated_known}
use Rattle.cw_audit_search.proofs.Counting.{rows_at_least, rows_at_most}
use Rattle.cw_audit_search.proofs.Recalled.{recalled}

pub games_fair : GamesAreFair
games_fair p g functions game leads main routes states = is_fair g functions leads main routes states p game

pub listings_stated : ListingsAreStated
listings_stated g functions s bound D t d l same few =
    (listing_is_good g functions d.fair s d.sound bound D d.far d.settled t l, listing_stated g functions d.fair s d.sound bound D d.far d.settled t l same few)

pub counted_stated : CountedRowsAreStated
counted_stated g functions s bound D row_keys d distinct counted t stated =
    rows_at_least (λ k. k) t row_keys distinct
    (λ i k e. let c = counted i k e in stated_has g functions d.fair s d.sound bound D d.far d.settled t stated k.0 k.1 k.2 k.3 c.0 c.1 c.2 c.3 c.4)

pub stated_found : StatedRowsAreFound
stated_found g functions s row_keys fair sound settled there t order stated =
    rows_at_most (λ k. k) t row_keys order
    (λ k h.
    let a = stated_known g functions fair s sound settled t stated k.0 k.1 k.2 k.3 h in
    let z = there k.0 k.1 k.2 k.3 a.0 a.1 in
    (z.0, k, z.1, refl))

pub cut_far : CutHitsAreFar
cut_far g functions s fair sound settled e = let h = sound.violated 65537 e in ((h.0, h.1), hits_cut g functions fair s sound settled e)

pub ways_shown : WaysAreShown
ways_shown g functions s w T fair sound ways e few least = recalled g functions fair s sound w ways T e few least
