-- Working definitions: what is left of a walk along a list, and along a row.
use Rattle.std.specs.Prelude.{◌≡◌, ℕ, ◌≤◌, List, [], ◌∷◌, if◌then◌else◌, ◌==◌, Option, Some, None, slice_get}

-- the list from a cell on
abbrev pub from : List ℕ → ℕ → List ℕ
from [] e = []
from (x ∷ xs) e = if x == e then x ∷ xs else from xs e

abbrev pub rest_of : List ℕ → Option ℕ → List ℕ
rest_of xs None = []
rest_of xs (Some e) = from xs e

-- a value that stands in a row from a number on
abbrev pub IsFrom : {T : Type 0} → List T → ℕ → T → Type 0
IsFrom row n v = (k : ℕ) × (n ≤ k) × (slice_get row k ≡ Some v)
