-- The numbers of contexts, in lists by functions.
use Rattle.std.specs.Prelude.{◌≡◌, ℕ, ◌≤◌, List, [], Option, Some, None, slice_get}
use Rattle.std.specs.Global.{Vec}
use Rattle.cw_solve.specs.declared.contexts.Context.{Context}
use Rattle.cw_solve.specs.declared.indices.Indices.{Indices}

abbrev pub numbers_in : Option (Vec ℕ) → List ℕ
numbers_in None = []
numbers_in (Some numbers) = numbers.items

-- the list of a function
abbrev pub numbers_of : Indices → ℕ → List ℕ
numbers_of s function = numbers_in (slice_get s.lists.items function)

-- each context has its number in the list of its function
abbrev pub AreListed : Indices → List Context → Type 0
AreListed s contexts = (n : ℕ) (c : Context) → slice_get contexts n ≡ Some c → (i : ℕ) × (slice_get (numbers_of s c.function) i ≡ Some n)

-- from an index on none of the numbers is the context's
abbrev pub AreOthers : List Context → Context → List ℕ → (from : ℕ) → Type 0
AreOthers contexts c numbers from = (i n : ℕ) → from ≤ i → slice_get numbers i ≡ Some n → slice_get contexts n ≡ Some c → ⊥
