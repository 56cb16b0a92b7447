-- What is behind the skips.
use Rattle.std.proofs.Common.{◌≡◌, ℕ, zero, suc, ◌+◌, ◌≤◌, List, [], ◌∷◌, Bool, true, false, cond, Option, Some, length, refl, sym, ap, ◌∙◌, arith}
use Rattle.std.specs.Prelude.{slice_get}
use Rattle.std.proofs.lemmas.Option.{none-some, same_Some, slice_get_past}
use Rattle.cw_certs.specs.declared.moves.Move.{Move}
use Rattle.cw_certs.specs.declared.moves.Move.TheVariants.{Skip}
use Rattle.cw_game.specs.declared.spots.Spot.{Spot}
use Rattle.cw_game.specs.declared.spots.Spot.TheVariants.{Visit, Exit}
use Rattle.cw_game.specs.Games.{Game, Ret, Config, at_pair, leads_in, weavers_in}
use Rattle.cw_audit_table.specs.Runs.{skip_by, skipped, Goes, skips}

module _ (g : Game) where
  past : (p : ℕ) → length g.spots ≤ p → weavers_in (slice_get g.spots p) ≡ false
  past p le = ap weavers_in (slice_get_past g.spots p le)

  -- with enough skips no visit is left, and one skip more changes nothing
  rests_by : (n p : ℕ) → length g.spots ≤ p + n → weavers_in (slice_get g.spots (skip_by n g p)) ≡ false
  rests_by zero p le = past p (omega arith)
  rests_by (suc n) p le = by (weavers_in (slice_get g.spots p)) refl (rests_by n (p + 2) (omega arith))
    where
      by : (b : Bool) → weavers_in (slice_get g.spots p) ≡ b → weavers_in (slice_get g.spots (skip_by n g (p + 2))) ≡ false
          → weavers_in (slice_get g.spots (cond b (skip_by n g (p + 2)) p)) ≡ false
      by true e h = h
      by false e h = e

  steady_by : (n p : ℕ) → length g.spots ≤ p + n → skip_by (suc n) g p ≡ skip_by n g p
  steady_by zero p le = ap (λ b. cond b (p + 2) p) (past p (omega arith))
  steady_by (suc n) p le = ap (λ k. cond (weavers_in (slice_get g.spots p)) k p) (steady_by n (p + 2) (omega arith))

  pub rests : (p : ℕ) → weavers_in (slice_get g.spots (skipped g p)) ≡ false
  rests p = rests_by (length g.spots) p (omega arith)

  -- nothing is skipped where no visit stands
  pub stays_by : (n p : ℕ) → weavers_in (slice_get g.spots p) ≡ false → skip_by n g p ≡ p
  stays_by zero p e = refl
  stays_by (suc n) p e = ap (λ b. cond b (skip_by n g (p + 2)) p) e

  pub stays : (p : ℕ) → weavers_in (slice_get g.spots p) ≡ false → skipped g p ≡ p
  stays p e = stays_by (length g.spots) p e

  -- one skip leads no further
  pub skip_on : (p : ℕ) → weavers_in (slice_get g.spots p) ≡ true → skipped g (p + 2) ≡ skipped g p
  skip_on p e = sym (ap (λ b. cond b (skip_by (length g.spots) g (p + 2)) p) e) ∙ steady_by (length g.spots) p (omega arith)

  visit_leads : (spot : Option Spot) (p q : ℕ) (rets : List Ret) → weavers_in spot ≡ true → leads_in g p q rets spot Skip ≡ Some (at_pair (p + 2) q rets)
  visit_leads (Some (Visit j i a)) p q rets e = refl
  visit_leads _ p q rets e = cc

  -- a skip is made at a visit, and leads behind it
  pub skip_leads : (spot : Option Spot) (p q : ℕ) (rets : List Ret) (e : Config) → leads_in g p q rets spot Skip ≡ Some e
      → (weavers_in spot ≡ true) × (at_pair (p + 2) q rets ≡ e)
  skip_leads (Some (Visit j i a)) p q rets e h = (refl, same_Some _ e h)
  skip_leads (Some (Exit f)) p q [] e h = absurd (none-some e h)
  skip_leads (Some (Exit f)) p q (r ∷ rets) e h = absurd (none-some e h)
  skip_leads _ p q rets e h = absurd (none-some e h)

  -- what goes on comes to rest behind the skips
  pub come_by : (n p q : ℕ) (rets : List Ret) (c : Config) (ms : List Move) → Goes g c ms (at_pair p q rets) → Goes g c ms (at_pair (skip_by n g p) q rets)
  come_by zero p q rets c ms h = h
  come_by (suc n) p q rets c ms h =
      by (weavers_in (slice_get g.spots p)) refl
      (λ e. come_by n (p + 2) q rets c ms (skips ms (at_pair p q rets) (at_pair (p + 2) q rets) h (visit_leads (slice_get g.spots p) p q rets e)))
    where
      by : (b : Bool) → weavers_in (slice_get g.spots p) ≡ b → (weavers_in (slice_get g.spots p) ≡ true → Goes g c ms (at_pair (skip_by n g (p + 2)) q rets))
          → Goes g c ms (at_pair (cond b (skip_by n g (p + 2)) p) q rets)
      by true e k = k e
      by false e k = h

  pub come : (p q : ℕ) (rets : List Ret) (c : Config) (ms : List Move) → Goes g c ms (at_pair p q rets) → Goes g c ms (at_pair (skipped g p) q rets)
  come p q rets c ms h = come_by (length g.spots) p q rets c ms h
