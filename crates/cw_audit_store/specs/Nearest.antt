-- Numbers that wait under keys, the nearest first.
use Rattle.std.specs.Prelude.{◌≡◌, ℕ, List, false, All}
use Rattle.std.specs.declared.cmp.Ordering.{Ordering}
use Rattle.std.specs.declared.cmp.Reverse.{Reverse}
use Rattle.std.specs.Ordering.{is_lt, nat_cmp, ordering_then}

-- by the key, and then by the number
abbrev pub next_cmp : ℕ × ℕ → ℕ × ℕ → Ordering
next_cmp a b = ordering_then (nat_cmp a.0 b.0) (nat_cmp a.1 b.1)

-- a key with its number; what comes first of these is the greatest
abbrev pub keyed : Reverse (ℕ × ℕ) → ℕ × ℕ
keyed r = r.0

abbrev pub nearest_cmp : Reverse (ℕ × ℕ) → Reverse (ℕ × ℕ) → Ordering
nearest_cmp a b = next_cmp (keyed b) (keyed a)

-- nothing that waits comes before it
abbrev pub IsFirst : ℕ × ℕ → List (ℕ × ℕ) → Type 0
IsFirst next waiting = All (λ (other : ℕ × ℕ). is_lt (next_cmp other next) ≡ false) waiting
