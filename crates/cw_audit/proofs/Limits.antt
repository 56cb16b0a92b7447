-- Which rows stand below a bound.
use Rattle.std.proofs.Common.{◌≡◌, ℕ, ◌<◌, ◌≤◌, List, [], map, true, false, cond, Option, Some, None, option_map, length, refl, sym, ap, ◌∙◌, subst, arith, ◌⊎◌, inl, inr}
use Rattle.std.proofs.lemmas.Bool.Decides.{leb_tells}
use Rattle.std.proofs.lemmas.Bool.{lt-ltb}
use Rattle.std.proofs.lemmas.List.{length-map}
use Rattle.std.proofs.lemmas.Option.{none-some, same_Some}
use Rattle.cw_product.specs.Product.{Held, game_of}
use Rattle.cw_audit_table.specs.Runs.{IsHit}
use Rattle.cw_audit_table.specs.Tables.{Audit}
use Rattle.cw_audit_search.specs.Settled.{IsSettled}
use Rattle.cw_audit_search.specs.Laws.{IsDone}
use Rattle.cw_audit_search.proofs.Ends.{hits_far}
use Rattle.cw_audit_store.specs.declared.row_key.Hit.{Hit}
use Rattle.cw_audit_store.specs.declared.row_key.RowKey.{RowKey}
use Rattle.cw_audit_store.specs.Finding.{found_of}
use Rattle.cw_audit_listing.specs.Lists.{AreAllBelow, IsLimit, plain}
use Rattle.cw_audit_moves.specs.Writing.{IsRunTo}
use Rattle.cw_audit_search.specs.Listing.{AreListed}
use Rattle.cw_audit_search.specs.Grouped.{AreBelow}
use Rattle.cw_audit_visits.specs.declared.under_way.Search.{Search}
use Rattle.cw_audit_visits.specs.Searching.{IsFairGame, IsKept, functions_of}
use Rattle.cw_audit.specs.Audits.{IsAuditOf, AreManyRows, AreManyMoves}
use Rattle.cw_audit.specs.Bounds.{AreMovesTo, IsEarly, IsNoted, bound_of, is_far}
use Rattle.cw_audit.proofs.Done.{many_rows, many_moves, audit_done, done_of, early_done, hit_low, far_cut, near_few}

abbrev distance_of : Option Hit → Option ℕ
distance_of o = option_map (λ (h : Hit). h.distance) o

-- the distance of a bound
limit_of : (o : Option Hit) → (D : Option ℕ) × IsLimit (bound_of o) D × ((D ≡ distance_of o) ⊎ ((h : Hit) × (o ≡ Some h) × (65536 < h.distance)))
limit_of None = (None, omega arith, inl refl)
limit_of (Some h) = elim (leb_tells h.distance 65536) [
  | inl k ↦ (Some h.distance, sym (ap (λ b. cond b h.distance 65538) k.0), inl refl)
  | inr k ↦ (None, subst (λ n. 65538 ≤ n) (sym (ap (λ b. cond b h.distance 65538) k.0)) (omega arith), inr (h, refl, k.1))
]

near_limit : (o : Option Hit) → IsNoted o → IsLimit (bound_of o) (distance_of o)
near_limit None near = omega arith
near_limit (Some h) near = elim (leb_tells h.distance 65536) [
  | inl k ↦ sym (ap (λ b. cond b h.distance 65538) k.0)
  | inr k ↦ let z : true ≡ false = sym (lt-ltb 65536 h.distance k.1) ∙ near in cc
]

early_limit : (bound limit : ℕ) → ((bound ≡ 65537) × (limit ≡ 65538)) ⊎ (limit ≡ bound) → (D : Option ℕ) × IsLimit limit D × ((D ≡ Some bound) ⊎ (Some bound ≡ Some 65537))
early_limit bound limit (inl e) = (None, omega (arith, e.1), inr (ap (λ n. Some n) e.0))
early_limit bound limit (inr e) = (Some bound, sym e, inl refl)

module _ (h : Held) (s : Search) (fair : IsFairGame h) (kept : IsKept (game_of h) (functions_of h) s) where
  -- too many rows are below a bound that isn't past the nearest violation
  pub early_many : (bound limit many : ℕ) (row_keys : List RowKey) → IsEarly s.store.hit bound → IsSettled (game_of h) (found_of s.store) bound
      → ((bound ≡ 65537) × (limit ≡ 65538)) ⊎ (limit ≡ bound) → AreAllBelow s.store limit row_keys → many ≡ length row_keys → 65536 < many → AreManyRows (game_of h)
  early_many bound limit many row_keys early settled is below count more =
      let d = early_done (game_of h) (functions_of h) fair (found_of s.store) kept.sound s.store.hit refl bound early settled in
      let l = early_limit bound limit is in
      many_rows (game_of h) (functions_of h) (found_of s.store) bound (Some bound) l.0 (map plain row_keys) d l.2 (below.below l.0 l.1) below.distinct
      (omega (arith, length-map row_keys plain, count, more))

  module _ (settled : IsSettled (game_of h) (found_of s.store) (bound_of s.store.hit)) where
    is_done : IsDone (game_of h) (functions_of h) (found_of s.store) (bound_of s.store.hit) (found_of s.store).best
    is_done = done_of (game_of h) (functions_of h) fair (found_of s.store) kept.sound s.store.hit refl settled

    -- too many rows are below the nearest violation, or at all
    pub done_many : (bound many : ℕ) (row_keys : List RowKey) → bound ≡ bound_of s.store.hit → AreAllBelow s.store bound row_keys → many ≡ length row_keys → 65536 < many
        → AreManyRows (game_of h)
    done_many bound many row_keys is below count more =
        let l = limit_of s.store.hit in
        let cut_at : ((v : Hit) × (s.store.hit ≡ Some v) × (65536 < v.distance)) → (found_of s.store).best ≡ Some 65537
        = λ (k : (v : Hit) × (s.store.hit ≡ Some v) × (65536 < v.distance)).
        let low = hit_low (game_of h) (functions_of h) fair (found_of s.store) kept.sound s.store.hit refl k.0 k.1 in
        ap distance_of k.1 ∙ ap (λ n. Some n) (omega (arith, low, k.2)) in
        many_rows (game_of h) (functions_of h) (found_of s.store) (bound_of s.store.hit) (found_of s.store).best l.0 (map plain row_keys) is_done
        (elim l.2 [ inl e ↦ inl e | inr k ↦ inr (cut_at k) ])
        (below.below l.0 (subst (λ n. IsLimit n l.0) (sym is) l.1)) below.distinct (omega (arith, length-map row_keys plain, count, more))

    -- the nearest violation is further than can be told
    pub done_far : (bound many : ℕ) (row_keys : List RowKey) → bound ≡ bound_of s.store.hit → is_far s.store.hit ≡ true → AreAllBelow s.store bound row_keys → many ≡ length row_keys
        → many ≤ 65536
        → AreManyMoves (game_of h)
    done_far bound many row_keys is far below count few =
        let z = far_cut (game_of h) (functions_of h) fair (found_of s.store) kept.sound s.store.hit refl far in
        many_moves (game_of h) (functions_of h) (found_of s.store) (map plain row_keys) fair kept.sound (subst (IsSettled (game_of h) (found_of s.store)) z.1 settled) z.0
        (below.below None (omega (arith, is, z.1))) (omega (arith, length-map row_keys plain, count, few))

    -- no run hits before the nearest violation
    pub done_least : (v : Hit) → s.store.hit ≡ Some v → (n : ℕ) → IsHit (game_of h) n → v.distance ≤ n
    done_least v e n hit =
        let z = hits_far (game_of h) (functions_of h) fair (found_of s.store) kept.sound (bound_of s.store.hit) (found_of s.store).best is_done.far is_done.settled n hit in
        let same = same_Some v.distance z.0 (sym (ap distance_of e) ∙ z.1) in
        omega (arith, same, z.2)

    -- the table
    pub done_audit : (row_keys : List RowKey) (t : Audit) → IsNoted s.store.hit → AreAllBelow s.store (bound_of s.store.hit) row_keys → length row_keys ≤ 65536
        → t.states ≡ (game_of h).states.count
        → t.distance ≡ distance_of s.store.hit → ((D : Option ℕ) → AreBelow (found_of s.store) D (map plain row_keys) → AreListed (found_of s.store) D t.groups)
        → AreMovesTo (game_of h) t.moves s.store.hit → IsAuditOf (game_of h) (functions_of h) t
    done_audit row_keys t near below few states distance listed moves =
        let best = (found_of s.store).best in
        let b = below.below best (near_limit s.store.hit near) in
        audit_done (game_of h) (functions_of h) (found_of s.store) (bound_of s.store.hit) t (map plain row_keys) is_done
        (near_few (game_of h) (functions_of h) fair (found_of s.store) kept.sound s.store.hit refl near) states distance (listed best b) b (omega (arith, length-map row_keys plain, few))
        (λ T e. runs s.store.hit moves T e) (λ e. none s.store.hit moves e)
      where
        runs : (o : Option Hit) → AreMovesTo (game_of h) t.moves o → (T : ℕ) → distance_of o ≡ Some T → IsRunTo (game_of h) t.moves T
        runs None m T d = absurd (none-some T d)
        runs (Some v) m T d = subst (IsRunTo (game_of h) t.moves) (same_Some v.distance T d) m

        none : (o : Option Hit) → AreMovesTo (game_of h) t.moves o → distance_of o ≡ None → t.moves ≡ []
        none None m e = m
        none (Some v) m e = absurd (none-some v.distance (sym e))
