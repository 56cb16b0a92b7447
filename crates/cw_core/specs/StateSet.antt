-- A set of numbers, as the sum of 2 to the power s over its members s.
use Rattle.std.specs.Prelude.{ℕ, zero, suc, ◌+◌, ◌^◌, ◌==◌, ◌<◌, Bool, if◌then◌else◌, IsTrue}
use Rattle.std.specs.Int.{bit_at}

-- whether the set has the number s: bit s of the sum is 1
unfoldable pub has : ℕ → ℕ → Bool
has set s = bit_at set s == 1

-- each member of a is one of b
abbrev pub IsSubset : ℕ → ℕ → Type 0
IsSubset a b = (s : ℕ) → IsTrue (has a s) → IsTrue (has b s)

-- the set has numbers below n alone
abbrev pub IsBelow : ℕ → ℕ → Type 0
IsBelow n set = (s : ℕ) → IsTrue (has set s) → s < n

-- the sum of 2 to the power s over the members s below n
unfoldable pub sum_of_powers : ℕ → ℕ → ℕ
sum_of_powers zero set = 0
sum_of_powers (suc n) set = sum_of_powers n set + (if has set n then 2 ^ n else 0)
