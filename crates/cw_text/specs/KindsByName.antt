-- Kinds by their names.
use Rattle.std.specs.Prelude.{ℕ, List, [], ◌∷◌, Option, Some, None, cond}
use Rattle.std.specs.Str.{bytes_eq}

-- the kind beside the first of some names that is this one; none where none is
abbrev pub kind_by : {A : Type 0} → List (List ℕ × A) → List ℕ → Option A
kind_by [] name = None
kind_by (k ∷ rest) name = cond (bytes_eq name k.0) (Some k.1) (kind_by rest name)
