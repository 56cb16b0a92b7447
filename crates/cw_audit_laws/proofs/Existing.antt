-- A game whose nearest violation can be told, or that has none, has a table.
use Rattle.std.proofs.Common.{◌≡◌, ℕ, ◌≤◌, Option, Some, None, arith, refl, sym, ap, ◌∙◌, ◌⊎◌, inl, inr}
use Rattle.std.proofs.lemmas.Option.{none-some, same_Some}
use Rattle.std.proofs.lemmas.Bool.Decides.{leb_tells}
use Rattle.cw_game.specs.Games.{Game}
use Rattle.cw_audit_table.specs.Conditions.{IsGoodAudit}
use Rattle.cw_audit_table.specs.Stated.{IsStated}
use Rattle.cw_audit_table.specs.Tables.{Audit}
use Rattle.cw_audit_search.specs.Searches.{Found}
use Rattle.cw_audit_search.specs.Settled.{IsBound}
use Rattle.cw_audit_search.specs.Sound.{IsFair}
use Rattle.cw_audit_search.proofs.Lawful.{cut_far, listings_stated}
use Rattle.cw_audit_search.proofs.Positive.{distance_positive}
use Rattle.cw_audit_laws.specs.There.{IsFar, TableIsThere}
use Rattle.cw_audit_laws.proofs.Listings.{listing_there}
use Rattle.cw_audit_laws.proofs.Settles.{IsOver, search_ends}

module _ (g : Game) (functions : ℕ) (fair : IsFair g functions) (s : Found) (over : IsOver g functions s) where
  abbrev Told : Type 0
  Told = (t : Audit) × IsGoodAudit g functions t × IsStated g t

  told_by : (D : Option ℕ) → s.best ≡ D → ((d : ℕ) → D ≡ Some d → d ≤ 65536) → IsBound s 65538 D → Told
  told_by D e few far =
      let l = listing_there g functions fair s over.sound D in
      let k = listings_stated g functions s 65538 D l.0 (record { fair = fair; sound = over.sound; far = far; settled = over.settled }) l.1 e few in
      (l.0, k.0, k.1)

  by_best : (o : Option ℕ) → s.best ≡ o → Told ⊎ IsFar g
  by_best None e = inl (told_by None e (λ d h. absurd (none-some d h)) (e, omega arith))
  by_best (Some d) e = elim (leb_tells d 65536) [
    | inl h ↦
        let low = h.1 in
        let far : IsBound s 65538 (Some d) = (
          distance_positive g functions fair s over.sound d e,
          omega (arith, low),
          omega (arith, low),
          λ k ek. let same = same_Some d k (sym e ∙ ek) in omega (arith, same),
        ) in
        inl (told_by (Some d) e (λ k h. let same = same_Some d k h in omega (arith, same, low)) far)
    | inr h ↦
        let more = h.1 in
        let cut_at = (over.sound.violated d e).2 in
        let most : d ≡ 65537 = omega (arith, more, cut_at) in
        inr (cut_far g functions s fair over.sound over.settled (e ∙ ap (λ n. Some n) most))
  ]

pub table_there : TableIsThere
table_there g functions fair = let w = search_ends g functions fair in by_best g functions fair w.0 w.1 w.0.best refl
