-- The least of some places.
use Rattle.std.specs.Prelude.{ℕ, List, map, Option, Some, None, slice_index_or}
use Rattle.cw_resolve.specs.Soonest.{sooner, soonest}

abbrev pub lowest : List ℕ → Option ℕ
lowest places = soonest (map Some places)

-- the place at a number, where there is one
abbrev pub at : List (Option ℕ) → ℕ → Option ℕ
at places number = slice_index_or places number None

-- the least of a function's head, of its body, and of the bodies of all that it reaches
abbrev pub forbidden : (heads bodies : List (Option ℕ)) → ℕ → List ℕ → Option ℕ
forbidden heads bodies f reaches = sooner (at heads f) (sooner (at bodies f) (soonest (map (at bodies) reaches)))
