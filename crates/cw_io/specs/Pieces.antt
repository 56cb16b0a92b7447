-- What a put does to the bytes that a sink has taken.
use Rattle.std.specs.Prelude.{◌≡◌, ℕ, List, ◌++◌, take, Option, Some, None, Result, Ok, Err}

-- from the old bytes to the new: these were appended, where the sink tells its bytes
abbrev pub Grows : Option (List ℕ) → Option (List ℕ) → List ℕ → Type 0
Grows None new bytes = Unit {0}
Grows (Some old) new bytes = new ≡ Some (old ++ bytes)

-- a put appended its piece, or after an error a front of it
abbrev pub Puts : {E : Type 0} → Option (List ℕ) → Option (List ℕ) → List ℕ → Result (Unit {0}) E → Type 0
Puts old new piece (Ok u) = Grows old new piece
Puts old new piece (Err fault) = (count : ℕ) × Grows old new (take count piece)
