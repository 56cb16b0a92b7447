-- Lists in which the same texts stand.
use Rattle.std.specs.Prelude.{◌≡◌, ℕ, List}
use Rattle.std.specs.List.{list_any}
use Rattle.std.specs.Str.{bytes_eq}

abbrev pub AreAlike : List (List ℕ) → List (List ℕ) → Type 0
AreAlike before other = (t : List ℕ) → list_any (bytes_eq t) before ≡ list_any (bytes_eq t) other
