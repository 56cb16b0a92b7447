-- The lines of a run, and those of a process among others.
use Rattle.std.specs.Prelude.{ℕ, List, [], ◌∷◌, ◌++◌, Bool, true, false, cond, Option, Some, None, codes}
use Rattle.std.specs.Fmt.{decimal}

-- a line is there
abbrev pub is_told : List ℕ → Bool
is_told [] = false
is_told (b ∷ line) = true

-- the number of a process and a blank
abbrev pub lead_of : Option ℕ → List ℕ
lead_of None = []
lead_of (Some process) = decimal process ++ codes " "

-- A line of a run, and that of a process among others, behind its number and a blank.
abbrev pub own_of : Option ℕ → List ℕ → List ℕ
own_of None line = line
own_of (Some process) line = cond (is_told line) (lead_of (Some process) ++ line) line
