-- No run hits by no move.
use Rattle.std.proofs.Common.{◌≡◌, ℕ, ◌<◌, List, [], ◌∷◌, true, Some, length, refl, sym, ap, ◌∙◌, arith, length-append, inl, inr}
use Rattle.std.specs.Prelude.{slice_get}
use Rattle.std.proofs.lemmas.Bool.{cases_eq}
use Rattle.cw_lemmas.proofs.Truths.{not_both}
use Rattle.cw_certs.specs.declared.moves.Move.{Move}
use Rattle.cw_game.specs.Games.{Game, Config, bad_in}
use Rattle.cw_audit_table.specs.Runs.{skipped, Goes, here, skips, goes, start_at, IsHit}
use Rattle.cw_audit_table.proofs.Skips.{stays, skip_on, skip_leads}
use Rattle.cw_audit_table.proofs.Bounds.{bad_stays}
use Rattle.cw_audit_search.specs.Searches.{Found}
use Rattle.cw_audit_search.specs.Sound.{IsFair, IsSound}

-- by skips alone a run comes to rest where it began
only_skips : (g : Game) (c d : Config) (ms : List Move) → Goes g c ms d → length ms ≡ 0 → (skipped g d.pos ≡ skipped g c.pos) × (d.state ≡ c.state)
only_skips g c _ [] here e = (refl, refl)
only_skips g c x ms (skips _ d _ h l) e =
    let z = only_skips g c d ms h e in
    let k = skip_leads g (slice_get g.spots d.pos) d.pos d.state d.rets x l in
    (ap (λ (y : Config). skipped g y.pos) (sym k.1) ∙ skip_on g d.pos k.0 ∙ z.0, ap (λ (y : Config). y.state) (sym k.1) ∙ z.1)
only_skips g c x _ (goes ms d _ by h good step l) e = absurd (omega (arith, length-append ms (by ∷ []), e))

-- so the nearest violation isn't at the start
pub distance_positive : (g : Game) (functions : ℕ) → IsFair g functions → (s : Found) → IsSound g functions s → (k : ℕ) → s.best ≡ Some k → 0 < k
distance_positive g functions fair s sound k e =
    let h = sound.violated k e in
    let far = not_none h.0 h.1 in
    omega (arith, h.2, far)
  where
    not_none : (n : ℕ) → IsHit g n → 0 < n
    not_none n h = positive n (λ none. absurd (at_start h.0 h.2.0 h.2.1 h.2.2 (h.1 ∙ none)))
      where
        at_start : (ms : List Move) (c : Config) → Goes g (start_at g) ms c → bad_in g c.state (slice_get g.spots c.pos) ≡ true → length ms ≡ 0 → ⊥
        at_start ms c r bad e =
            let z = only_skips g (start_at g) c ms r e in
            let here = sym (stays g c.pos (bad_stays g c.state (slice_get g.spots c.pos) bad)) ∙ z.0 in
            not_both (bad_in g c.state (slice_get g.spots c.pos)) bad
            (ap (λ p. bad_in g c.state (slice_get g.spots p)) here ∙ ap (λ q. bad_in g q (slice_get g.spots (skipped g (g.entry g.main)))) z.1 ∙ fair.good)

        positive : (n : ℕ) → ((n ≡ 0) → ⊥) → 0 < n
        positive n f = elim (cases_eq n 0) [ inl e ↦ absurd (f e) | inr d ↦ omega (arith, d) ]
