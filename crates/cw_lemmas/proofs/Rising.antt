-- A list ascends where each of its rows comes before the next.
use Rattle.std.proofs.Common.{◌≡◌, ℕ, zero, suc, ◌+◌, ◌-◌, ◌<◌, ◌≤◌, List, [], ◌∷◌, length, get_or, sym, ap, ◌∙◌, subst, arith, ap₂, inl, inr}
use Rattle.std.specs.Cmp.{IsTotalOrder}
use Rattle.std.specs.List.Sorted.{IsStrictlySortedBy}
use Rattle.std.specs.declared.cmp.Ordering.{Ordering}
use Rattle.std.specs.declared.cmp.Ordering.TheVariants.{Less}
use Rattle.std.proofs.lemmas.Map.Keys.{sorted_from_all_adjacent}
use Rattle.std.proofs.lemmas.Bool.{cases_lt}
use Rattle.std.proofs.lemmas.List.{get_or_default}

-- so far each row comes before the next
abbrev pub Rises : {A : Type 0} → (A → A → Ordering) → List A → ℕ → Type 0
Rises {A} cmp xs n = (k : ℕ) (d : A) → k + 1 < n → cmp (get_or xs k d) (get_or xs (k + 1) d) ≡ Less

pub ascends_from : {A : Type 0} {cmp : A → A → Ordering} → IsTotalOrder cmp → (xs : List A) → Rises cmp xs (length xs) → IsStrictlySortedBy cmp xs
unfolding IsStrictlySortedBy
ascends_from o [] h = tt
ascends_from o (x ∷ xs) h = sorted_from_all_adjacent o (x ∷ xs) x (λ k lt. h k x lt)

-- one row further
pub rises_more : {A : Type 0} (cmp : A → A → Ordering) (xs : List A) (i : ℕ) (a b : A) → 1 ≤ i → i < length xs → a ≡ get_or xs (i - 1) a → b ≡ get_or xs i b → cmp a b ≡ Less → Rises cmp xs i → Rises cmp xs (i + 1)
rises_more cmp xs i a b some lt first second less h k d near = elim (cases_lt (k + 1) i) [
  | inl below ↦ h k d below
  | inr up ↦
      let here : k + 1 ≡ i = omega (arith, near, up) in
      let before : i - 1 ≡ k = omega (arith, here) in
      let within : k < length xs = omega (arith, here, lt) in
      let one : get_or xs k d ≡ a = get_or_default xs k d a within ∙ ap (λ (n : ℕ). get_or xs n a) (sym before) ∙ sym first in
      let other : get_or xs (k + 1) d ≡ b = ap (λ (n : ℕ). get_or xs n d) here ∙ get_or_default xs i d b lt ∙ sym second in
      ap₂ cmp one other ∙ less
]

-- so two rows that stand side by side are in order
pub beside : {A : Type 0} (cmp : A → A → Ordering) (xs : List A) → IsStrictlySortedBy cmp xs → (i : ℕ) (a b : A) → 1 ≤ i → i < length xs → a ≡ get_or xs (i - 1) a → b ≡ get_or xs i b → cmp a b ≡ Less
unfolding IsStrictlySortedBy
beside cmp xs s zero a b le lt e f = absurd (omega (arith, le))
beside cmp [] s (suc i) a b le lt e f = absurd (omega (arith, lt))
beside cmp (x ∷ []) s (suc i) a b le lt e f = absurd (omega (arith, lt))
beside cmp (x ∷ (y ∷ xs)) s (suc zero) a b le lt e f = subst (λ v. cmp a v ≡ Less) (sym f) (subst (λ u. cmp u y ≡ Less) (sym e) s.0.0)
beside cmp (x ∷ (y ∷ xs)) s (suc (suc i)) a b le lt e f =
    let back : suc (suc i) - 1 ≡ suc i = omega arith in
    let same : suc i - 1 ≡ i = omega arith in
    beside cmp (y ∷ xs) s.1 (suc i) a b (omega arith) (omega (arith, lt)) (e ∙ ap (λ k. get_or (x ∷ (y ∷ xs)) k a) back ∙ ap (λ k. get_or (y ∷ xs) k a) (sym same)) f
