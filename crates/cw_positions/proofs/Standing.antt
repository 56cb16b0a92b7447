-- What is put together of parts: a part stands where it begins, and what stands somewhere is of a part.
use Rattle.std.proofs.Common.{◌≡◌, ℕ, zero, suc, ◌+◌, List, [], ◌∷◌, ◌++◌, length, take, Some, refl, sym, ap, ◌∙◌, subst, zero-add, arith, ⊎_elim}
use Rattle.std.proofs.Common.{◌⊎◌, inl, inr}
use Rattle.std.specs.Prelude.{slice_get}
use Rattle.std.specs.List.{sum_by, flat_map}
use Rattle.std.proofs.lemmas.Option.{none-some, same_Some}
use Rattle.cw_points.proofs.Held.{HasAt, has_front, has_all}
use Rattle.cw_positions.proofs.Begins.{begin_next}

-- what is behind
get_behind : {A : Type 0} (a b : List A) (p : ℕ) → slice_get (a ++ b) (length a + p) ≡ slice_get b p
get_behind [] b p = ap (slice_get b) (zero-add p)
get_behind (i ∷ a) b p =
    let e : length (i ∷ a) + p ≡ suc (length a + p) = omega arith in
    ap (slice_get (i ∷ (a ++ b))) e ∙ get_behind a b p

has_behind : {A : Type 0} (a b is : List A) (p : ℕ) → HasAt b p is → HasAt (a ++ b) (length a + p) is
has_behind a b [] p h = tt
has_behind a b (i ∷ is) p h =
    let e : length a + (p + 1) ≡ length a + p + 1 = omega arith in
    (get_behind a b p ∙ h.0, subst (λ q. HasAt (a ++ b) q is) e (has_behind a b is (p + 1) h.1))

-- what stands somewhere in two lists stands in the first, or in the second behind it
pub found_two : {A : Type 0} (a b : List A) (q : ℕ) (o : A) → slice_get (a ++ b) q ≡ Some o
    → (slice_get a q ≡ Some o) ⊎ ((i : ℕ) × (slice_get b i ≡ Some o) × (q ≡ length a + i))
found_two [] b q o e = inr (q, e, sym (zero-add q))
found_two (x ∷ a) b zero o e = inl e
found_two (x ∷ a) b (suc q) o e =
    ⊎_elim (λ y. inl y) (λ y. let z : suc q ≡ length (x ∷ a) + y.0 = omega (arith, y.2) in inr (y.0, y.1, z)) (found_two a b q o e)

module _ {A B : Type 0} (f : A → List B) (w : A → ℕ) (wide : (n : A) → length (f n) ≡ w n) where
  -- the part with the number p stands from where it begins
  pub stands : (ns : List A) (p : ℕ) (n : A) → slice_get ns p ≡ Some n → HasAt (flat_map f ns) (sum_by w (take p ns)) (f n)
  stands [] p n e = absurd (none-some n e)
  stands (m ∷ ns) zero n e =
      subst (λ k. HasAt (f m ++ flat_map f ns) 0 (f k)) (same_Some m n e)
      (has_front (f m ++ flat_map f ns) 0 (f m) (flat_map f ns) (has_all (f m ++ flat_map f ns) []))
  stands (m ∷ ns) (suc p) n e =
      let z : length (f m) + sum_by w (take p ns) ≡ sum_by w (take (suc p) (m ∷ ns)) =
      ap (λ k. k + sum_by w (take p ns)) (wide m) ∙ sym (begin_next w m ns p) in
      subst (λ q. HasAt (f m ++ flat_map f ns) q (f n)) z (has_behind (f m) (flat_map f ns) (f n) (sum_by w (take p ns)) (stands ns p n e))

  -- what stands at q is of some part, at some place of it
  pub found : (ns : List A) (q : ℕ) (o : B) → slice_get (flat_map f ns) q ≡ Some o
      → (p : ℕ) × (n : A) × (i : ℕ) × (slice_get ns p ≡ Some n) × (slice_get (f n) i ≡ Some o) × (q ≡ sum_by w (take p ns) + i)
  found [] q o e = absurd (none-some o e)
  found (m ∷ ns) q o e = ⊎_elim first (λ y. later y.0 y.2 (found ns y.0 o y.1)) (found_two (f m) (flat_map f ns) q o e)
    where
      first : slice_get (f m) q ≡ Some o
          → (p : ℕ) × (n : A) × (i : ℕ) × (slice_get (m ∷ ns) p ≡ Some n) × (slice_get (f n) i ≡ Some o) × (q ≡ sum_by w (take p (m ∷ ns)) + i)
      first e = let z : q ≡ 0 + q = sym (zero-add q) in (0, m, q, refl, e, z)

      later : (k : ℕ) → q ≡ length (f m) + k
          → (p : ℕ) × (n : A) × (i : ℕ) × (slice_get ns p ≡ Some n) × (slice_get (f n) i ≡ Some o) × (k ≡ sum_by w (take p ns) + i)
          → (p : ℕ) × (n : A) × (i : ℕ) × (slice_get (m ∷ ns) p ≡ Some n) × (slice_get (f n) i ≡ Some o) × (q ≡ sum_by w (take p (m ∷ ns)) + i)
      later k e r =
          let z : q ≡ sum_by w (take (suc r.0) (m ∷ ns)) + r.2 = omega (arith, e, wide m, r.5, begin_next w m ns r.0) in
          (suc r.0, r.1, r.2, r.3, r.4, z)
