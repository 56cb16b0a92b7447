-- What a binary search finds in a list that ascends strictly by a key is what the first look-up by that key finds.
use Rattle.std.proofs.Common.{◌≡◌, ℕ, zero, suc, ◌+◌, ◌<◌, ◌≤◌, List, [], ◌∷◌, Bool, true, false, cond, Some, None, find, length, get_or, nat_lt, refl, sym, ap, ◌∙◌, arith}
use Rattle.std.specs.List.Sorted.{IsStrictlySortedBy, IsNonDecreasingBy, IsPartitionPoint, IsSortedBy}
use Rattle.std.specs.declared.cmp.Ordering.{Ordering}
use Rattle.std.specs.declared.cmp.Ordering.TheVariants.{Less, Equal, Greater}
use Rattle.std.specs.Ordering.{ordering_index, ordering_reverse, is_eq, is_lt, on}
use Rattle.std.specs.Cmp.{IsTotalOrder}
use Rattle.std.proofs.lemmas.Map.Keys.{Less-from_sorted}
use Rattle.std.proofs.lemmas.List.Sorted.{searchable_from_sorted}
use Rattle.std.proofs.lemmas.Bool.Decides.{nat_tests}
use Rattle.cw_lemmas.proofs.Orders.{not_less}

module _ {A : Type 0} (test : A → Bool) where
  pub find_first : (xs : List A) (i : ℕ) (e : A) → i < length xs → test (get_or xs i e) ≡ true → ((j : ℕ) (d : A) → j < i → test (get_or xs j d) ≡ false) → find test xs ≡ Some (get_or xs i e)
  find_first [] i e l t f = absurd (omega arith)
  find_first (x ∷ xs) zero e l t f = ap (λ b. cond b (Some x) (find test xs)) t
  find_first (x ∷ xs) (suc i) e l t f =
      ap (λ b. cond b (Some x) (find test xs)) (f 0 x (omega arith)) ∙ find_first xs i e (omega arith) t (λ j d b. f (suc j) d (omega arith))

  pub find_none : (xs : List A) → ((j : ℕ) (d : A) → j < length xs → test (get_or xs j d) ≡ false) → find test xs ≡ None
  find_none [] f = refl
  find_none (x ∷ xs) f = ap (λ b. cond b (Some x) (find test xs)) (f 0 x (omega arith)) ∙ find_none xs (λ j d b. f (suc j) d (omega arith))

-- tests that agree find the same
pub find_by : {A : Type 0} (p q : A → Bool) → ((x : A) → p x ≡ q x) → (xs : List A) → find p xs ≡ find q xs
find_by p q h [] = refl
find_by p q h (x ∷ xs) = ap (λ b. cond b (Some x) (find p xs)) (h x) ∙ ap (λ o. cond (q x) (Some x) o) (find_by p q h xs)

module _ {A K : Type 0} {R : K → K → Ordering} (o : IsTotalOrder R) (key : A → K) (k : K) where
  sorted_weakly : (xs : List A) → IsStrictlySortedBy (on key R) xs → IsSortedBy (λ a b. is_lt (R (key a) (key b))) xs
  sorted_weakly xs s j d l b = not_less _ _ (o.antisymm _ _) (Less-from_sorted (on key R) xs j (j + 1) d s (omega arith) b)

  -- what is below a key that is this one is below this one
  below : (a b : K) → R a b ≡ Less → R b k ≡ Equal → R a k ≡ Less
  below a b l e = o.antisymm a k ∙ ap ordering_reverse (sym (o.congr b k a e)) ∙ sym (o.antisymm a b) ∙ l

  pub found : (xs : List A) (i : ℕ) (x : A) → IsStrictlySortedBy (on key R) xs → i < length xs → ((d : A) → R (key (get_or xs i d)) k ≡ Equal) → x ≡ get_or xs i x → Some x ≡ find (λ r. is_eq (R (key r) k)) xs
  found xs i x s l h e =
      ap Some e ∙ sym (find_first (λ r. is_eq (R (key r) k)) xs i x l (ap is_eq (h x)) (λ j d b. ap is_eq (below _ _ (Less-from_sorted (on key R) xs j i d s b l) (h d))))

  -- where a search finds none no item has this key
  pub none_here : (xs : List A) (i : ℕ) → IsStrictlySortedBy (on key R) xs
      → (IsNonDecreasingBy (λ y. ordering_index (R (key y) k)) xs → IsPartitionPoint (λ y. R (key y) k ≡ Less) (λ y. R (key y) k ≡ Greater) xs i)
      → (j : ℕ) (d : A) → j < length xs → is_eq (R (key (get_or xs j d)) k) ≡ false
  none_here xs i s h j d l = by (p.0 j d (omega arith)) (p.1 j d)
    where
      p : IsPartitionPoint (λ y. R (key y) k ≡ Less) (λ y. R (key y) k ≡ Greater) xs i
      p = h (searchable_from_sorted o key xs k (sorted_weakly xs s))

      by : (j < i → R (key (get_or xs j d)) k ≡ Less) → (i ≤ j → j < length xs → R (key (get_or xs j d)) k ≡ Greater) → is_eq (R (key (get_or xs j d)) k) ≡ false
      by a b = cases (nat_lt j i) refl
        where
          cases : (t : Bool) → nat_lt j i ≡ t → is_eq (R (key (get_or xs j d)) k) ≡ false
          cases true t = let lt : j < i = grind (arith, nat_tests) in ap is_eq (a lt)
          cases false t = let le : i ≤ j = grind (arith, nat_tests) in ap is_eq (b le l)

  pub lost : (xs : List A) (i : ℕ) → IsStrictlySortedBy (on key R) xs
      → (IsNonDecreasingBy (λ y. ordering_index (R (key y) k)) xs → IsPartitionPoint (λ y. R (key y) k ≡ Less) (λ y. R (key y) k ≡ Greater) xs i)
      → None ≡ find (λ r. is_eq (R (key r) k)) xs
  lost xs i s h = sym (find_none (λ r. is_eq (R (key r) k)) xs (none_here xs i s h))
