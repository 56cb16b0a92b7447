-- The least of some places, where there is one.
use Rattle.std.specs.Prelude.{ℕ, List, [], ◌∷◌, min, Option, Some, None}

abbrev pub sooner : Option ℕ → Option ℕ → Option ℕ
sooner None other = other
sooner (Some a) None = Some a
sooner (Some a) (Some b) = Some (min a b)

abbrev pub soonest : List (Option ℕ) → Option ℕ
soonest [] = None
soonest (place ∷ places) = sooner place (soonest places)
