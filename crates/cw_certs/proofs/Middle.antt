-- The part of a list that passes a test, where those that pass it stand side by side.
use Rattle.std.proofs.Common.{◌≡◌, ℕ, zero, suc, ◌+◌, ◌-◌, ◌<◌, ◌≤◌, List, [], ◌∷◌, Bool, true, false, cond, filter, length, get_or, take, drop, length-drop, nat_lt, nat_le, nat_eq, refl, sym, ap, ◌∙◌, subst, arith}
use Rattle.std.specs.List.Sorted.{IsStrictlySortedBy, IsNonDecreasingBy, IsPartitionPoint, IsPartitionedBy}
use Rattle.std.specs.declared.cmp.Ordering.{Ordering}
use Rattle.std.specs.declared.cmp.Ordering.TheVariants.{Less, Greater}
use Rattle.std.specs.Ordering.{ordering_then, nat_cmp}
use Rattle.std.proofs.lemmas.Bool.Decides.{nat_tests}
use Rattle.std.proofs.lemmas.List.{get_or-drop}
use Rattle.cw_core.specs.declared.ids.PosId.{PosId}
use Rattle.cw_core.specs.declared.ids.MemId.{MemId}
use Rattle.cw_certs.specs.Ascending.{live_cmp}
use Rattle.std.proofs.lemmas.Map.Keys.{Less-from_sorted}
use Rattle.std.proofs.lemmas.List.Sorted.{IsPartitionedBy-ltb, IsPartitionedBy-leb}

module _ {A : Type 0} (test : A → Bool) where
  pub filter_front : (xs : List A) (k : ℕ) → ((j : ℕ) (d : A) → j < k → j < length xs → test (get_or xs j d) ≡ true) → ((j : ℕ) (d : A) → k ≤ j → j < length xs → test (get_or xs j d) ≡ false) → take k xs ≡ filter test xs
  filter_front [] zero f g = refl
  filter_front [] (suc k) f g = refl
  filter_front (x ∷ xs) zero f g =
      filter_front xs zero (λ j d l m. absurd (omega (arith, l))) (λ j d l m. g (suc j) d (omega arith) (omega (arith, m))) ∙ sym (ap (λ b. cond b (x ∷ filter test xs) (filter test xs)) (g 0 x (omega arith) (omega arith)))
  filter_front (x ∷ xs) (suc k) f g =
      ap (λ ys. x ∷ ys) (filter_front xs k (λ j d l m. f (suc j) d (omega (arith, l)) (omega (arith, m))) (λ j d l m. g (suc j) d (omega (arith, l)) (omega (arith, m))))
      ∙ sym (ap (λ b. cond b (x ∷ filter test xs) (filter test xs)) (f 0 x (omega arith) (omega arith)))

  pub filter_past : (xs : List A) (i : ℕ) → ((j : ℕ) (d : A) → j < i → j < length xs → test (get_or xs j d) ≡ false) → filter test (drop i xs) ≡ filter test xs
  filter_past [] zero f = refl
  filter_past [] (suc i) f = refl
  filter_past (x ∷ xs) zero f = refl
  filter_past (x ∷ xs) (suc i) f =
      filter_past xs i (λ j d l m. f (suc j) d (omega (arith, l)) (omega (arith, m))) ∙ sym (ap (λ b. cond b (x ∷ filter test xs) (filter test xs)) (f 0 x (omega arith) (omega arith)))

module _ {A : Type 0} (number : A → ℕ) (p : ℕ) where
  below_is_not : (n : ℕ) → nat_lt n p ≡ true → nat_eq n p ≡ false
  below_is_not n e = grind (arith, nat_tests)

  above_is_not : (n : ℕ) → nat_le n p ≡ false → nat_eq n p ≡ false
  above_is_not n e = grind (arith, nat_tests)

  between_is : (n : ℕ) → nat_lt n p ≡ false → nat_le n p ≡ true → nat_eq n p ≡ true
  between_is n e f = grind (arith, nat_tests)

  pub middle : (xs : List A) (i k : ℕ)
      → IsPartitionPoint (λ y. nat_lt (number y) p ≡ true) (λ y. nat_lt (number y) p ≡ false) xs i
      → IsPartitionPoint (λ y. nat_le (number y) p ≡ true) (λ y. nat_le (number y) p ≡ false) xs k
      → i ≤ length xs
      → take (k - i) (drop i xs) ≡ filter (λ r. nat_eq (number r) p) xs
  middle xs i k low high le =
      filter_front test (drop i xs) (k - i) inside (λ j d l m. above_is_not _ (after j d l m)) ∙ filter_past test xs i (λ j d l m. below_is_not _ (low.0 j d (omega arith) l))
    where
      test : A → Bool
      test r = nat_eq (number r) p

      inside : (j : ℕ) (d : A) → j < k - i → j < length (drop i xs) → nat_eq (number (get_or (drop i xs) j d)) p ≡ true
      inside j d l m =
          let far : i + j < length xs = omega (arith, m, length-drop i xs) in
          let point = low.1 (i + j) d (omega arith) far in
          let more = high.0 (i + j) d (omega arith) (omega (arith, l)) in
          subst (λ y. nat_eq (number y) p ≡ true) (sym (get_or-drop i xs j d)) (between_is _ point more)

      after : (j : ℕ) (d : A) → k - i ≤ j → j < length (drop i xs) → nat_le (number (get_or (drop i xs) j d)) p ≡ false
      after j d l m =
          let far : i + j < length xs = omega (arith, m, length-drop i xs) in
          subst (λ y. nat_le (number y) p ≡ false) (sym (get_or-drop i xs j d)) (high.1 (i + j) d (omega (arith, l)) far)

  -- where the numbers of a position begin is not after where they end
  pub in_order : (xs : List A) (i k : ℕ)
      → IsPartitionPoint (λ y. nat_lt (number y) p ≡ true) (λ y. nat_lt (number y) p ≡ false) xs i
      → IsPartitionPoint (λ y. nat_le (number y) p ≡ true) (λ y. nat_le (number y) p ≡ false) xs k
      → i ≤ length xs → i ≤ k
  in_order [] i k low high le = omega arith
  in_order (x ∷ xs) i k low high le = by (nat_lt k i) refl
    where
      both : (n : ℕ) → nat_lt n p ≡ true → nat_le n p ≡ false → ⊥
      both n e f = grind (arith, nat_tests)

      by : (t : Bool) → nat_lt k i ≡ t → i ≤ k
      by true t =
          let lt : k < i = grind (arith, nat_tests) in
          absurd (both _ (low.0 k x (omega arith) lt) (high.1 k x (omega arith) (omega (arith, lt, le))))
      by false t = grind (arith, nat_tests)

module _ (xs : List (PosId × MemId)) (s : IsStrictlySortedBy live_cmp xs) where
  then_le : (a b : ℕ) (o : Ordering) → ordering_then (nat_cmp a b) o ≡ Less → a ≤ b
  then_le a b o e = by (nat_lt b a) refl
    where
      by : (t : Bool) → nat_lt b a ≡ t → a ≤ b
      by true t =
          let above : nat_cmp a b ≡ Greater = grind (arith, nat_tests) in
          let turned : Greater ≡ Less = ap (λ c. ordering_then c o) (sym above) ∙ e in
          cc
      by false t = grind (arith, nat_tests)

  -- a list that ascends by position, then memory, doesn't fall by position
  pub positions_rise : IsNonDecreasingBy (λ r. r.0.0) xs
  positions_rise i j d le l = by (nat_lt i j) refl
    where
      by : (t : Bool) → nat_lt i j ≡ t → (get_or xs i d).0.0 ≤ (get_or xs j d).0.0
      by true t = let b : i < j = grind (arith, nat_tests) in then_le _ _ _ (Less-from_sorted live_cmp xs i j d s b l)
      by false t = let e : i ≡ j = grind (arith, nat_tests) in subst (λ k. (get_or xs i d).0.0 ≤ (get_or xs k d).0.0) e (omega arith)

  pub parted_below : (p : ℕ) → IsPartitionedBy (λ r. nat_lt r.0.0 p) xs
  parted_below p = IsPartitionedBy-ltb (λ r. r.0.0) xs p positions_rise

  pub parted_upto : (p : ℕ) → IsPartitionedBy (λ r. nat_le r.0.0 p) xs
  parted_upto p = IsPartitionedBy-leb (λ r. r.0.0) xs p positions_rise
