-- What stands in a list whose keys ascend is found by its key.
use Rattle.std.proofs.Common.{◌≡◌, ℕ, zero, suc, ◌<◌, List, [], ◌∷◌, map, Bool, true, false, cond, ◌&&◌, Option, Some, None, find, nat_eq, nat_lt, eqb-true, eq-eqb, refl}
use Rattle.std.proofs.Common.{sym, ap, ◌∙◌, subst}
use Rattle.std.proofs.Common.{arith, ◌⊎◌, inl, inr}
use Rattle.std.specs.Prelude.{slice_get, option_map}
use Rattle.std.proofs.lemmas.Option.{none-some, same_Some}
use Rattle.std.proofs.lemmas.Bool.{ltb-true, lt-ltb, and_parts, or_cases, or_left, or_right}
use Rattle.std.proofs.lemmas.Bool.{and_from as both}
use Rattle.cw_audit_table.specs.Tables.{PlainRow, PlainGroup, group_at, inside_at}
use Rattle.cw_audit_table.specs.Conditions.{is_after, key_of, pair_of}
use Rattle.cw_audit_search.specs.Ordered.{AscendAfter}

-- the second comes after the first
abbrev pub After : ℕ × ℕ → ℕ × ℕ → Type 0
After a b = (a.0 < b.0) ⊎ ((a.0 ≡ b.0) × (a.1 < b.1))

pub after_says : (a b : ℕ × ℕ) → is_after (Some a) b ≡ true → After a b
after_says a b h = elim (or_cases (nat_lt a.0 b.0) (nat_eq a.0 b.0 && nat_lt a.1 b.1) h) [
  | inl k ↦ inl (ltb-true a.0 b.0 k)
  | inr k ↦ let z = and_parts (nat_eq a.0 b.0) (nat_lt a.1 b.1) k in inr (eqb-true a.0 b.0 z.0, ltb-true a.1 b.1 z.1)
]

pub says_after : (a b : ℕ × ℕ) → After a b → is_after (Some a) b ≡ true
says_after a b h = elim h [
  | inl k ↦ or_left (nat_lt a.0 b.0) (nat_eq a.0 b.0 && nat_lt a.1 b.1) (lt-ltb a.0 b.0 k)
  | inr k ↦ or_right (nat_lt a.0 b.0) (nat_eq a.0 b.0 && nat_lt a.1 b.1) (both (nat_eq a.0 b.0) (nat_lt a.1 b.1) (eq-eqb a.0 b.0 k.0) (lt-ltb a.1 b.1 k.1))
]

pub after_after : (a b c : ℕ × ℕ) → After a b → After b c → After a c
after_after a b c h k = elim h [
  | inl x ↦ elim k [ inl y ↦ inl (omega (arith, x, y)) | inr y ↦ inl (omega (arith, x, y.0)) ]
  | inr x ↦ elim k [ inl y ↦ inl (omega (arith, x.0, y)) | inr y ↦ inr (omega (arith, x.0, y.0), omega (arith, x.1, y.1)) ]
]

-- none comes after itself
pub not_after : (a b : ℕ × ℕ) → After a b → (b.0 ≡ a.0) → (b.1 ≡ a.1) → ⊥
not_after a b h e f = elim h [ inl x ↦ omega (arith, x, e) | inr x ↦ omega (arith, x.1, f) ]

module _ {X : Type 0} (key : X → ℕ × ℕ) where
  -- each of the list comes after what is before it
  pub all_after : (k : ℕ × ℕ) (xs : List X) → AscendAfter (Some k) (map key xs) → (i : ℕ) (x : X) → slice_get xs i ≡ Some x → After k (key x)
  all_after k [] h i x e = absurd (none-some x e)
  all_after k (y ∷ xs) h zero x e = subst (λ z. After k (key z)) (same_Some y x e) (after_says k (key y) h.0)
  all_after k (y ∷ xs) h (suc i) x e = after_after k (key y) (key x) (after_says k (key y) h.0) (all_after (key y) xs h.1 i x e)

  abbrev pub has_key : (m n : ℕ) → X → Bool
  has_key m n x = nat_eq (key x).0 m && nat_eq (key x).1 n

  key_same : (m n : ℕ) (x : X) → has_key m n x ≡ true → ((key x).0 ≡ m) × ((key x).1 ≡ n)
  key_same m n x h = let z = and_parts (nat_eq (key x).0 m) (nat_eq (key x).1 n) h in (eqb-true (key x).0 m z.0, eqb-true (key x).1 n z.1)

  same_key : (m n : ℕ) (x : X) → (key x).0 ≡ m → (key x).1 ≡ n → has_key m n x ≡ true
  same_key m n x e f = both (nat_eq (key x).0 m) (nat_eq (key x).1 n) (eq-eqb (key x).0 m e) (eq-eqb (key x).1 n f)

  -- what stands there is found by its key
  pub found_by : (last : Option (ℕ × ℕ)) (xs : List X) → AscendAfter last (map key xs) → (i : ℕ) (x : X) (m n : ℕ) → slice_get xs i ≡ Some x → (key x).0 ≡ m → (key x).1 ≡ n
      → find (has_key m n) xs ≡ Some x
  found_by last [] h i x m n e em en = absurd (none-some x e)
  found_by last (y ∷ xs) h zero x m n e em en =
      let s = same_Some y x e in ap (λ b. cond b (Some y) (find (has_key m n) xs)) (same_key m n y (subst (λ z. (key z).0 ≡ m) (sym s) em) (subst (λ z. (key z).1 ≡ n) (sym s) en)) ∙ e
  found_by last (y ∷ xs) h (suc i) x m n e em en = by (has_key m n y) refl (found_by (Some (key y)) xs h.1 i x m n e em en)
    where
      by : (b : Bool) → has_key m n y ≡ b → find (has_key m n) xs ≡ Some x → cond b (Some y) (find (has_key m n) xs) ≡ Some x
      by true t r = let k = key_same m n y t in absurd (not_after (key y) (key x) (all_after (key y) xs h.1 i x e) (em ∙ sym k.0) (en ∙ sym k.1))
      by false t r = r

-- a group and a row
pub group_there : (groups : List PlainGroup) (i : ℕ) (grp : PlainGroup) (f q : ℕ) → AscendAfter None (map key_of groups) → slice_get groups i ≡ Some grp
    → grp.function ≡ f → grp.entered ≡ q → group_at groups f q ≡ Some grp
group_there groups i grp f q h e ef eq = found_by key_of None groups h i grp f q e ef eq

pub row_there : (rows : List PlainRow) (i : ℕ) (r : PlainRow) (p x : ℕ) → AscendAfter None (map pair_of rows) → slice_get rows i ≡ Some r → r.pos ≡ p → r.state ≡ x
    → inside_at rows p x ≡ Some r.inside
row_there rows i r p x h e ep ex = ap (option_map (λ (r : PlainRow). r.inside)) (found_by pair_of None rows h i r p x e ep ex)
