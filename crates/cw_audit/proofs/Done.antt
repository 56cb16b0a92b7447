-- What a search that is done tells.
use Rattle.std.proofs.Common.{◌≡◌, ℕ, ◌+◌, ◌<◌, ◌≤◌, List, [], Bool, true, false, cond, Option, Some, None, option_map, length, refl, sym, ap, ◌∙◌, subst, arith}
use Rattle.std.proofs.Common.{◌⊎◌, inl, inr}
use Rattle.std.specs.Prelude.{nat_le, Result, Err, IfErr}
use Rattle.cw_audit.specs.declared.fault.AuditFault.{AuditFault}
use Rattle.cw_audit.specs.declared.fault.AuditFault.TheVariants.{TooManyRows, TooManyMoves}
use Rattle.std.specs.List.{IsDistinct}
use Rattle.std.proofs.lemmas.Option.{none-some, same_Some}
use Rattle.std.proofs.lemmas.Bool.{ltb-true, lt-ltb}
use Rattle.std.proofs.lemmas.Bool.Decides.{leb_tells}
use Rattle.cw_model.specs.Boards.{Problem}
use Rattle.cw_game.specs.Games.{Game}
use Rattle.cw_game.specs.Standing.{IsGameOf}
use Rattle.cw_audit_table.specs.Plays.{IsVerdict}
use Rattle.cw_audit_table.specs.Tables.{Audit}
use Rattle.cw_audit_table.specs.Conditions.{is_before, EndAlone}
use Rattle.cw_audit_table.proofs.Closing.{group_found, row_found}
use Rattle.cw_audit_table.proofs.Plays.{goes_played, shown_exact}
use Rattle.cw_game.proofs.Linking.{linked}
use Rattle.cw_audit_search.specs.Searches.{Found}
use Rattle.cw_audit_search.specs.Sound.{IsFair, IsSound}
use Rattle.cw_audit_search.specs.Settled.{IsSettled, IsBound, IsRowBelow}
use Rattle.cw_audit_search.specs.Counted.{RowKey, is_row_key, HasRow}
use Rattle.cw_audit_search.specs.Listing.{AreListed, IsListing}
use Rattle.cw_audit_search.specs.Grouped.{AreBelow}
use Rattle.cw_audit_search.specs.Laws.{IsDone}
use Rattle.cw_audit_search.proofs.Counting.{rows_at_most}
use Rattle.cw_audit_search.proofs.Lawful.{listings_stated, counted_stated, stated_found, cut_far}
use Rattle.cw_audit_search.proofs.Positive.{distance_positive}
use Rattle.cw_audit_store.specs.declared.row_key.Hit.{Hit}
use Rattle.cw_audit_moves.specs.Writing.{IsRunTo}
use Rattle.cw_audit.specs.Audits.{IsFew, IsAuditOf, IsPlayed, IsFaultOf, AreManyRows, AreManyMoves}
use Rattle.cw_audit.specs.Bounds.{bound_of, early_bound, IsEarly, is_far}

-- Too many rows are below the distance; or there are too many at all, where it is cut.
pub many_rows : (g : Game) (functions : ℕ) (s : Found) (bound : ℕ) (D D2 : Option ℕ) (row_keys : List RowKey) → IsDone g functions s bound D → (D2 ≡ D) ⊎ (D ≡ Some 65537)
    → AreBelow s D2 row_keys → IsDistinct is_row_key row_keys → 65536 < length row_keys → AreManyRows g
many_rows g functions s bound D D2 row_keys d same below distinct many = λ t stated.
    let least = counted_stated g functions s bound D row_keys d distinct
    (λ i k e.
    let w = below.found i k e in
    (w.0, w.1, w.2.0, w.2.1, elim same [ inl h ↦ inl (subst (λ o. is_before o (w.0 + w.1) ≡ true) h w.2.2) | inr h ↦ inr h ])) t stated in
    omega (arith, many, least)

-- All is settled, and the nearest violation was cut.
pub many_moves : (g : Game) (functions : ℕ) (s : Found) (row_keys : List RowKey) → IsFair g functions → IsSound g functions s → IsSettled g s 65538 → s.best ≡ Some 65537
    → AreBelow s None row_keys → length row_keys ≤ 65536 → AreManyMoves g
many_moves g functions s row_keys fair sound settled e below few =
    let far = cut_far g functions s fair sound settled e in
    record {
      hit = far.0;
      far = far.1;
      few_rows = λ t order stated.
          let most = stated_found g functions s row_keys fair sound settled
          (λ f q p x a ea. let r = sound.known f q p x a ea in below.whole f q r.0 p x a (r.1, ea, refl)) t order stated in
          omega (arith, most, few);
    }

-- each row of a table that lists a search is below the distance
row_listed : (s : Found) (D : Option ℕ) (t : Audit) → AreListed s D t.groups → (f q p x : ℕ) → HasRow t f q p x → (r : ℕ) × (a : ℕ) × IsRowBelow s D f q r p x a
row_listed s D t l f q p x h =
    let z = group_found t.groups f q h.0 h.1 in
    let y = row_found h.0.rows p x h.2.0 h.2.1 in
    let w = l.below z.2.0 y.4.0 h.0 y.0 z.2.1 y.4.1 in (
      h.0.reach,
      y.0.inside,
      subst (λ f. IsRowBelow s D f q h.0.reach p x y.0.inside) z.0
          (subst (λ q. IsRowBelow s D h.0.function q h.0.reach p x y.0.inside) z.1
          (subst (λ p. IsRowBelow s D h.0.function h.0.entered h.0.reach p x y.0.inside) y.1
          (subst (λ x. IsRowBelow s D h.0.function h.0.entered h.0.reach y.0.pos x y.0.inside) y.2 w))),
    )

-- The table of a search that is done.
pub audit_done : (g : Game) (functions : ℕ) (s : Found) (bound : ℕ) (t : Audit) (row_keys : List RowKey) → IsDone g functions s bound s.best → ((d : ℕ) → s.best ≡ Some d → d ≤ 65536)
    → t.states ≡ g.states.count → t.distance ≡ s.best → AreListed s s.best t.groups → AreBelow s s.best row_keys → length row_keys ≤ 65536
    → ((T : ℕ) → s.best ≡ Some T → IsRunTo g t.moves T) → (s.best ≡ None → t.moves ≡ []) → IsAuditOf g functions t
audit_done g functions s bound t row_keys d low states distance listed below few run none =
    let l : IsListing g s s.best t = record { states = states; distance = distance; groups = listed } in
    let both = listings_stated g functions s bound s.best t d l refl low in
    record {
      stated = both.1;
      good = both.0;
      shown = λ T e. run T (sym distance ∙ e);
      needed = λ e. none (sym distance ∙ e);
      few_rows =
          let most = rows_at_most (λ (k : RowKey). k) t row_keys (record { groups_ascend = listed.groups_ascend; rows_ascend = listed.rows_ascend })
          (λ k h.
          let w = row_listed s s.best t listed k.0 k.1 k.2 k.3 h in
          let m = below.whole k.0 k.1 w.0 k.2 k.3 w.1 w.2 in
          (m.0, k, m.1, refl)) in
          omega (arith, most, few);
      few_moves = is_few t.distance (λ T e. low T (sym distance ∙ e));
    }
  where
    is_few : (o : Option ℕ) → ((T : ℕ) → o ≡ Some T → T ≤ 65536) → IsFew o
    is_few None h = tt
    is_few (Some T) h = h T refl

-- What it says of each program of the game.
pub verdict_of : (g : Game) (functions : ℕ) (t : Audit) → IsAuditOf g functions t → EndAlone g functions → (p : Problem) → IsGameOf p g → IsVerdict p t.distance
verdict_of g functions t audit alone p game = shown_exact p g functions t game alone audit.good audit.shown

-- Its moves are those of a play.
pub played_of : (g : Game) (functions : ℕ) (t : Audit) → IsAuditOf g functions t → (p : Problem) → IsGameOf p g → IsPlayed p t
played_of g functions t audit p game T e =
    let s = audit.shown T e in
    let w = goes_played p g game t.moves s.1.0 s.1.1 in
    (w.0, w.1, (linked p g game).is_bad w.0 s.1.0 w.2 s.1.2)

-- what a fault says
pub rows_fault : {A : Type 0} (g : Game) (r : Result A AuditFault) → IfErr r (IsFaultOf g) → r ≡ Err TooManyRows → AreManyRows g
rows_fault g r h e = subst (λ r. IfErr r (IsFaultOf g)) e h

pub moves_fault : {A : Type 0} (g : Game) (r : Result A AuditFault) → IfErr r (IsFaultOf g) → r ≡ Err TooManyMoves → AreManyMoves g
moves_fault g r h e = subst (λ r. IfErr r (IsFaultOf g)) e h

module _ (g : Game) (functions : ℕ) (fair : IsFair g functions) (s : Found) (sound : IsSound g functions s) (hit : Option Hit) (best : s.best ≡ option_map (λ h. h.distance) hit) where
  -- the nearest violation isn't at the start, and was cut
  distance_of : (h : Hit) → hit ≡ Some h → s.best ≡ Some h.distance
  distance_of h e = best ∙ ap (option_map (λ h. h.distance)) e

  pub hit_positive : (h : Hit) → hit ≡ Some h → 0 < h.distance
  hit_positive h e = distance_positive g functions fair s sound h.distance (distance_of h e)

  pub hit_low : (h : Hit) → hit ≡ Some h → h.distance ≤ 65537
  hit_low h e = let z = (sound.violated h.distance (distance_of h e)).2 in omega (arith, z)

  bound_low : (d : ℕ) → d ≤ 65537 → d ≤ cond (nat_le d 65536) d 65538
  bound_low d l = by (nat_le d 65536)
    where
      by : (b : Bool) → d ≤ cond b d 65538
      by true = omega arith
      by false = omega (arith, l)

  is_bound : (o : Option Hit) → hit ≡ o → IsBound s (bound_of o) (option_map (λ h. h.distance) o)
  is_bound None e = (best ∙ ap (option_map (λ h. h.distance)) e, omega arith)
  is_bound (Some h) e = (
    hit_positive h e,
    bound_low h.distance (hit_low h e),
    hit_low h e,
    λ k ek. let same = same_Some h.distance k (sym (distance_of h e) ∙ ek) in omega (arith, same),
  )

  -- settled to the nearest violation, or everywhere
  pub done_of : IsSettled g s (bound_of hit) → IsDone g functions s (bound_of hit) s.best
  done_of settled = record { fair = fair; sound = sound; far = subst (IsBound s (bound_of hit)) (sym best) (is_bound hit refl); settled = settled }

  early_far : (o : Option Hit) (bound : ℕ) → hit ≡ o → IsEarly o bound → IsBound s bound (Some bound)
  early_far None bound e h = (h.0, omega arith, h.1, λ k ek. absurd (none-some k (sym (best ∙ ap (option_map (λ h. h.distance)) e) ∙ ek)))
  early_far (Some v) bound e h =
      let low = h.2 in
      (h.0, omega arith, h.1, λ k ek. let same = same_Some v.distance k (sym (distance_of v e) ∙ ek) in omega (arith, same, low))

  -- settled as far as a bound that isn't past the nearest violation
  pub early_done : (bound : ℕ) → IsEarly hit bound → IsSettled g s bound → IsDone g functions s bound (Some bound)
  early_done bound early settled = record { fair = fair; sound = sound; far = early_far hit bound refl early; settled = settled }

  is_early : (o : Option Hit) (key : ℕ) → hit ≡ o → IsEarly o (early_bound o key)
  is_early None key e = (omega arith, omega arith)
  is_early (Some h) key e = let p = hit_positive h e in (omega (arith, p), omega arith, omega arith)

  pub early_bounds : (key : ℕ) → IsEarly hit (early_bound hit key)
  early_bounds key = is_early hit key refl

  far_bound : (d : ℕ) → 65536 < d → cond (nat_le d 65536) d 65538 ≡ 65538
  far_bound d l = elim (leb_tells d 65536) [ inl h ↦ let k = h.1 in absurd (omega (arith, l, k)) | inr h ↦ ap (λ b. cond b d 65538) h.0 ]

  far_is : (o : Option Hit) → hit ≡ o → is_far o ≡ true → (s.best ≡ Some 65537) × (bound_of o ≡ 65538)
  far_is None e f = cc
  far_is (Some h) e f =
      let l = ltb-true 65536 h.distance f in
      let k = hit_low h e in
      (distance_of h e ∙ ap (λ n. Some n) (omega (arith, l, k)), far_bound h.distance l)

  -- further than can be told
  pub far_cut : is_far hit ≡ true → (s.best ≡ Some 65537) × (bound_of hit ≡ 65538)
  far_cut f = far_is hit refl f

  -- and else it can be told
  near_is : (o : Option Hit) → is_far o ≡ false → (d : ℕ) → option_map (λ h. h.distance) o ≡ Some d → d ≤ 65536
  near_is None f d e = absurd (none-some d e)
  near_is (Some h) f d e = let same = same_Some h.distance d e in elim (leb_tells h.distance 65536) [ inl k ↦ let l = k.1 in omega (arith, l, same) | inr k ↦ absurd (by (k.1)) ]
    where
      by : 65536 < h.distance → ⊥
      by l = let z : true ≡ false = sym (lt-ltb 65536 h.distance l) ∙ f in cc

  pub near_few : is_far hit ≡ false → (d : ℕ) → s.best ≡ Some d → d ≤ 65536
  near_few f d e = near_is hit f d (sym best ∙ e)
