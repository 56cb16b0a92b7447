-- The calls that are open are fewer than the rows: each stands below the one around it.
use Rattle.std.proofs.Common.{ℕ, ◌+◌, ◌<◌, List, [], ◌∷◌, length, arith}

-- the row, the rows of the open calls from the innermost on, and the number of rows: each is below the next
abbrev pub AreNested : (rows at : ℕ) → (calls : List ℕ) → Type 0
AreNested rows at [] = at < rows
AreNested rows at (caller ∷ calls) = (at < caller) × AreNested rows caller calls

pub few_open : (rows at : ℕ) (calls : List ℕ) → AreNested rows at calls → at + length calls < rows
few_open rows at [] h = omega (arith, h)
few_open rows at (caller ∷ calls) h = let k = few_open rows caller calls h.1 in let l = h.0 in omega (arith, k, l)

pub nested_below : (rows next at : ℕ) (calls : List ℕ) → next < at → AreNested rows at calls → AreNested rows next calls
nested_below rows next at [] lt h = omega (arith, lt, h)
nested_below rows next at (caller ∷ calls) lt h = let l = h.0 in (omega (arith, lt, l), h.1)
