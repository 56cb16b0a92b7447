-- Working definitions: what the program holds of names and numbers, as lists.
use Rattle.std.specs.Prelude.{ℕ, List, [], map, slice_get, unwrap_or}
use Rattle.std.specs.Global.{Vec}

abbrev pub lists : List (Vec ℕ) → List (List ℕ)
lists held = map (λ one. one.items) held

-- the name with this number; a number without a name has the empty one
abbrev pub name_in : List (List ℕ) → ℕ → List ℕ
name_in names number = unwrap_or (slice_get names number) []
