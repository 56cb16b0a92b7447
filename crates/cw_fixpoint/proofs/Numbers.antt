-- The number of an item in a list that ascends strictly.
use Rattle.std.proofs.Common.{◌≡◌, ℕ, zero, suc, ◌+◌, ◌<◌, List, [], ◌∷◌, Bool, true, false, cond, Some, length, get_or, refl, sym, ap, ap₂, ◌∙◌, arith, inl, inr}
use Rattle.std.specs.Prelude.{slice_get, slice_index}
use Rattle.std.specs.FinMap.{IsAntisymmetric, nat_cmp-IsAntisymmetric}
use Rattle.std.specs.List.{Contains}
use Rattle.std.specs.List.Sorted.{IsStrictlySortedBy, IsNonDecreasingBy, IsPartitionPoint}
use Rattle.std.specs.declared.cmp.Ordering.{Ordering}
use Rattle.std.specs.declared.cmp.Ordering.TheVariants.{Less, Equal, Greater}
use Rattle.std.specs.Ordering.{ordering_index, ordering_reverse, is_eq, eq_by_cmp, nat_cmp}
use Rattle.std.specs.Cmp.{IsTotalOrder, tied_itself, nat_cmp_total}
use Rattle.std.proofs.lemmas.Bool.{cases_lt}
use Rattle.std.proofs.lemmas.Map.Keys.{Less-from_sorted}
use Rattle.std.proofs.lemmas.Option.{slice_get-get_or, slice_get_within, get_or_from_slice_get}
use Rattle.cw_fixpoint.specs.Numbers.{number_in}
use Rattle.cw_lemmas.proofs.Found.{none_here}
use Rattle.cw_lemmas.proofs.Orders.{is_eq_equal as at_equal, less_nat}

module _ {A : Type 0} (cmp : A → A → Ordering) (total : IsTotalOrder cmp) where
  -- of two items one can't be both before and after the other
  pub apart : (x y : A) → cmp x y ≡ Less → cmp y x ≡ Less → ⊥
  apart x y h k = let e : Less ≡ ordering_reverse Less = sym h ∙ total.antisymm x y ∙ ap ordering_reverse k in cc

module _ {A : Type 0} (cmp : A → A → Ordering) (total : IsTotalOrder cmp) (exact : IsAntisymmetric cmp) where
  abbrev number : List A → A → ℕ
  number xs x = number_in cmp xs x

  pub equal_is : (x y : A) → eq_by_cmp cmp x y ≡ true → x ≡ y
  equal_is x y e = exact x y (at_equal (cmp x y) e)

  itself : (x : A) → eq_by_cmp cmp x x ≡ true
  itself x = ap is_eq (tied_itself total x)

  pub contained : (xs : List A) (i : ℕ) (x : A) → slice_get xs i ≡ Some x → Contains xs x
  contained xs i x e = (i, slice_get_within xs i x e, get_or_from_slice_get xs i x x e)

  -- an item of the list stands at its number
  pub at_number : (xs : List A) (x : A) → Contains xs x → slice_get xs (number xs x) ≡ Some x
  at_number [] x (i, lt, e) = absurd (omega (arith, lt))
  at_number (y ∷ ys) x (i, lt, e) = by (eq_by_cmp cmp y x) refl i lt e (at_number ys x)
    where
      by : (b : Bool) → eq_by_cmp cmp y x ≡ b → (i : ℕ) → i < length (y ∷ ys) → get_or (y ∷ ys) i x ≡ x → (Contains ys x → slice_get ys (number_in cmp ys x) ≡ Some x)
          → slice_get (y ∷ ys) (number_in cmp (y ∷ ys) x) ≡ Some x
      by true t i lt e rec = ap (λ b. slice_get (y ∷ ys) (cond b 0 (number_in cmp ys x + 1))) t ∙ ap Some (equal_is y x t)
      by false f zero lt e rec = let w : true ≡ false = sym (itself x) ∙ ap (λ z. eq_by_cmp cmp z x) (sym e) ∙ f in cc
      by false f (suc i) lt e rec =
          let n : number_in cmp ys x + 1 ≡ suc (number_in cmp ys x) = omega arith in
          ap (λ b. slice_get (y ∷ ys) (cond b 0 (number_in cmp ys x + 1))) f ∙ ap (slice_get (y ∷ ys)) n ∙ rec (i, omega (arith, lt), e)

  -- where an item has an index this is its number
  pub number_at : (xs : List A) (i : ℕ) (x : A) → IsStrictlySortedBy cmp xs → slice_get xs i ≡ Some x → number xs x ≡ i
  number_at xs i x s e =
      let n = number xs x in
      let at = at_number xs x (contained xs i x e) in
      elim (cases_lt i n) [
        | inl lt ↦
            let w : Less ≡ Equal =
            sym (Less-from_sorted cmp xs i n x s lt (slice_get_within xs n x at)) ∙ ap₂ cmp (get_or_from_slice_get xs i x x e) (get_or_from_slice_get xs n x x at) ∙ tied_itself total x in
            cc
        | inr ge ↦ elim (cases_lt n i) [
          | inl lt ↦
              let w : Less ≡ Equal =
              sym (Less-from_sorted cmp xs n i x s lt (slice_get_within xs i x e)) ∙ ap₂ cmp (get_or_from_slice_get xs n x x at) (get_or_from_slice_get xs i x x e) ∙ tied_itself total x in
              cc
          | inr le ↦ omega (arith, ge, le)
        ]
      ]

  -- a lesser item has a lesser number
  pub number_less : (xs : List A) (x y : A) → IsStrictlySortedBy cmp xs → Contains xs x → Contains xs y → cmp x y ≡ Less → number xs x < number xs y
  number_less xs x y s c d l =
      let m = number xs x in
      let n = number xs y in
      let a = at_number xs x c in
      let b = at_number xs y d in
      elim (cases_lt m n) [
        | inl lt ↦ lt
        | inr ge ↦ elim (cases_lt n m) [
          | inl lt ↦
              let back : cmp y x ≡ Less =
              sym (ap₂ cmp (get_or_from_slice_get xs n y x b) (get_or_from_slice_get xs m x x a)) ∙ Less-from_sorted cmp xs n m x s lt (slice_get_within xs m x a) in
              absurd (apart cmp total x y l back)
          | inr le ↦
              let same : m ≡ n = omega (arith, ge, le) in
              let one : x ≡ y = sym (get_or_from_slice_get xs m x x a) ∙ ap (λ k. get_or xs k x) same ∙ get_or_from_slice_get xs n y x b in
              let w : Less ≡ Equal = sym l ∙ ap (λ z. cmp z y) one ∙ tied_itself total y in
              cc
        ]
      ]

  -- by a binary search
  pub found_at : (xs : List A) (x : A) (i : ℕ) → IsStrictlySortedBy cmp xs → i < length xs → ((d : A) → cmp (get_or xs i d) x ≡ Equal) → number xs x ≡ i
  found_at xs x i s l h = number_at xs i x s (slice_get-get_or xs i x l ∙ ap (λ (y : A). Some y) (exact (get_or xs i x) x (h x)))

  -- an item that is none of the list
  none_number : (xs : List A) (x : A) → ((j : ℕ) (d : A) → j < length xs → eq_by_cmp cmp (get_or xs j d) x ≡ false) → number xs x ≡ length xs
  none_number [] x f = refl
  none_number (y ∷ ys) x f =
      let n : length ys + 1 ≡ suc (length ys) = omega arith in
      ap (λ b. cond b 0 (number_in cmp ys x + 1)) (f 0 y (omega arith)) ∙ ap (λ m. m + 1) (none_number ys x (λ j d l. f (suc j) d (omega (arith, l)))) ∙ n

  pub lost_at : (xs : List A) (x : A) (i : ℕ) → IsStrictlySortedBy cmp xs
      → (IsNonDecreasingBy (λ y. ordering_index (cmp y x)) xs → IsPartitionPoint (λ y. cmp y x ≡ Less) (λ y. cmp y x ≡ Greater) xs i) → number xs x ≡ length xs
  lost_at xs x i s h = none_number xs x (none_here total (λ (y : A). y) x xs i s h)

-- a list in which numbers stand in order
module _ (es : List ℕ) (order : IsStrictlySortedBy nat_cmp es) where
  pub stands : (e : ℕ) → Contains es e → slice_index es (number_in nat_cmp es e) ≡ e
  stands e c = get_or_from_slice_get es (number_in nat_cmp es e) e 0 (at_number nat_cmp nat_cmp_total nat_cmp-IsAntisymmetric es e c)

  pub below : (e : ℕ) → Contains es e → number_in nat_cmp es e < length es
  below e c = slice_get_within es (number_in nat_cmp es e) e (at_number nat_cmp nat_cmp_total nat_cmp-IsAntisymmetric es e c)

  less_at : (m n : ℕ) → m < n → n < length es → nat_cmp (slice_index es m) (slice_index es n) ≡ Less
  less_at m n l b = Less-from_sorted nat_cmp es m n 0 order l b

  -- items compare as their numbers do
  pub same_order : (m n : ℕ) → m < length es → n < length es → nat_cmp (slice_index es m) (slice_index es n) ≡ nat_cmp m n
  same_order m n lm ln =
      elim (cases_lt m n) [
        | inl lt ↦ less_at m n lt ln ∙ sym (less_nat m n lt)
        | inr ge ↦ elim (cases_lt n m) [
          | inl lt ↦
              nat_cmp_total.antisymm (slice_index es m) (slice_index es n) ∙ ap ordering_reverse (less_at n m lt lm ∙ sym (less_nat n m lt)) ∙ sym (nat_cmp_total.antisymm m n)
          | inr le ↦
              let e : m ≡ n = omega (arith, ge, le) in
              ap (λ k. nat_cmp (slice_index es m) (slice_index es k)) (sym e) ∙ tied_itself nat_cmp_total (slice_index es m) ∙ sym (tied_itself nat_cmp_total m) ∙ ap (nat_cmp m) e
        ]
      ]
