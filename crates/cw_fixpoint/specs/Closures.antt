-- The least set that has some keys and is closed under steps.
use Rattle.std.specs.Prelude.{ℕ, List, length, ◌<◌, ◌≤◌}
use Rattle.std.specs.declared.cmp.Ordering.{Ordering}
use Rattle.std.specs.List.{Contains}
use Rattle.std.specs.List.Sorted.{IsStrictlySortedBy}

-- a key is reached where it is one of the starts, or is a step from one that is reached
pub data Reached {K : Type 0} (step : K → List K) (starts : List K) : K → Type 0 where
  first : (k : K) → Contains starts k → Reached step starts k
  then : (a b : K) → Reached step starts a → Contains (step a) b → Reached step starts b

-- the keys ascend, each once, and are those of P
abbrev pub Exactly : {K : Type 0} → (K → K → Ordering) → (K → Type 0) → List K → Type 0
Exactly {K} cmp P xs = IsStrictlySortedBy cmp xs × ((x : K) → (Contains xs x → P x) × (P x → Contains xs x))

-- no more than n keys are of P
abbrev pub AtMost : {K : Type 0} → (K → K → Ordering) → (K → Type 0) → ℕ → Type 0
AtMost {K} cmp P n = (xs : List K) → IsStrictlySortedBy cmp xs → ((x : K) → Contains xs x → P x) → length xs ≤ n

-- more than n keys are of P
abbrev pub HasMore : {K : Type 0} → (K → K → Ordering) → (K → Type 0) → ℕ → Type 0
HasMore {K} cmp P n = (xs : List K) × IsStrictlySortedBy cmp xs × ((x : K) → Contains xs x → P x) × (n < length xs)
