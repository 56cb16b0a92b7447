-- Where the parts of a list begin, each of them so wide.
use Rattle.std.proofs.Common.{◌≡◌, ℕ, zero, suc, ◌+◌, ◌*◌, ◌<◌, ◌≤◌, List, [], ◌∷◌, ◌++◌, length, take, map, get_or, Some, refl, sym, ap, ◌∙◌, arith}
use Rattle.std.specs.Prelude.{slice_get, min}
use Rattle.std.specs.List.{sum_by, range_with_len}
use Rattle.std.proofs.lemmas.Option.{none-some, same_Some, slice_get-get_or}
use Rattle.std.proofs.lemmas.List.FromFn.{get_or-map-range_with_len, length-map-range_with_len, map-range_with_len_more}
use Rattle.std.proofs.lemmas.List.Sums.{sum_by-cons}

module _ {A : Type 0} (w : A → ℕ) where
  pub begin_next : (n : A) (ns : List A) (p : ℕ) → sum_by w (take (suc p) (n ∷ ns)) ≡ w n + sum_by w (take p ns)
  begin_next n ns p = sum_by-cons w n (take p ns)

  pub begin_small : (most : ℕ) → ((n : A) → w n ≤ most) → (ns : List A) (p : ℕ) → sum_by w (take p ns) ≤ most * p
  begin_small most h [] zero = omega arith
  begin_small most h (n ∷ ns) zero = omega arith
  begin_small most h [] (suc p) = omega arith
  begin_small most h (n ∷ ns) (suc p) = omega (arith, begin_next n ns p, h n, begin_small most h ns p)

  pub begin_more : (ns : List A) (p : ℕ) (n : A) → slice_get ns p ≡ Some n → sum_by w (take (p + 1) ns) ≡ sum_by w (take p ns) + w n
  begin_more [] p n e = absurd (none-some n e)
  begin_more (m ∷ ns) zero n e = omega (arith, begin_next m ns 0, ap w (same_Some m n e))
  begin_more (m ∷ ns) (suc p) n e =
      let z : suc p + 1 ≡ suc (p + 1) = omega arith in
      omega (arith, ap (λ k. sum_by w (take k (m ∷ ns))) z, begin_next m ns (p + 1), begin_next m ns p, begin_more ns p n e)

  -- the same of an item that a loop is at
  pub end_more : (ns : List A) (i end width : ℕ) (d : A) → i < length ns → end ≡ sum_by w (take i ns) → width ≡ w (get_or ns i d)
      → end + width ≡ sum_by w (take (i + 1) ns)
  end_more ns i end width d h e z = omega (arith, e, z, begin_more ns i (get_or ns i d) (slice_get-get_or ns i d h))

  -- no part has a number past all
  past : (ns : List A) (p : ℕ) → sum_by w (take (min p (length ns)) ns) ≡ sum_by w (take p ns)
  past [] p = none (min p 0) ∙ sym (none p)
    where
      none : (q : ℕ) → sum_by w (take q []) ≡ 0
      none zero = refl
      none (suc q) = refl
  past (n ∷ ns) zero = let e : min zero (length (n ∷ ns)) ≡ zero = omega arith in ap (λ k. sum_by w (take k (n ∷ ns))) e
  past (n ∷ ns) (suc p) =
      let e : min (suc p) (length (n ∷ ns)) ≡ suc (min p (length ns)) = omega arith in
      ap (λ k. sum_by w (take k (n ∷ ns))) e ∙ begin_next n ns (min p (length ns)) ∙ ap (λ b. w n + b) (past ns p) ∙ sym (begin_next n ns p)

  abbrev begins : List A → List ℕ
  begins ns = map (λ p. sum_by w (take p ns)) (range_with_len 0 (length ns + 1))

  -- one more of where they begin
  pub begins_more : (ns : List A) (i end : ℕ) (bs : List ℕ) → bs ≡ map (λ p. sum_by w (take p ns)) (range_with_len 0 (i + 1))
      → end ≡ sum_by w (take (i + 1) ns)
      → bs ++ end ∷ [] ≡ map (λ p. sum_by w (take p ns)) (range_with_len 0 (i + 1 + 1))
  begins_more ns i end bs h e =
      ap (λ l. l ++ end ∷ []) h ∙ ap (λ n. map (λ p. sum_by w (take p ns)) (range_with_len 0 (i + 1)) ++ n ∷ []) e
      ∙ sym (map-range_with_len_more (λ p. sum_by w (take p ns)) 0 (i + 1) (i + 1) (omega arith))

  pub begin_found : (ns : List A) (p d : ℕ) → get_or (begins ns) (min p (length ns)) d ≡ sum_by w (take p ns)
  begin_found ns p d = get_or-map-range_with_len (λ k. sum_by w (take k ns)) 0 (length ns + 1) (min p (length ns)) (min p (length ns)) d
      (omega arith) (omega arith) ∙ past ns p

  pub begins_length : (ns : List A) → length (begins ns) ≡ length ns + 1
  begins_length ns = length-map-range_with_len (λ p. sum_by w (take p ns)) 0 (length ns + 1)

  pub begin_within : (ns : List A) (p d : ℕ) → p < length ns + 1 → get_or (begins ns) p d ≡ sum_by w (take p ns)
  begin_within ns p d h = get_or-map-range_with_len (λ k. sum_by w (take k ns)) 0 (length ns + 1) p p d h (omega arith)

  -- a part ends before all do
  pub begin_below : (ns : List A) (p : ℕ) (n : A) → slice_get ns p ≡ Some n → sum_by w (take p ns) + w n ≤ sum_by w (take (length ns) ns)
  begin_below [] p n e = absurd (none-some n e)
  begin_below (m ∷ ns) zero n e = omega (arith, begin_next m ns (length ns), ap w (same_Some m n e))
  begin_below (m ∷ ns) (suc p) n e = omega (arith, begin_next m ns (length ns), begin_next m ns p, begin_below ns p n e)
