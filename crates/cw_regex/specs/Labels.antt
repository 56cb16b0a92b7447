-- The names in a set of labels.
use Rattle.std.specs.Prelude.{◌≡◌, ℕ, List, ◌++◌, map, false, Vec, IsTrue, Contains}
use Rattle.std.specs.List.{All}
use Rattle.std.specs.Global.{Global}
use Rattle.cw_rights.specs.Valid.{is_name}
use Rattle.cw_regex.specs.Meaning.{labels_in}
use Rattle.cw_regex.specs.Parts.{parts}

abbrev pub names_in : List (Vec ℕ Global) → List (List ℕ)
names_in keys = map (λ v. v.items) keys

-- each has the form of a C name
abbrev pub AreNames : List (List ℕ) → Type 0
AreNames names = All (λ w. IsTrue (is_name w)) names

-- the old names stand in front as they were, and those after them are labels of the text
pub record Gains (text : List ℕ) (old new : List (List ℕ)) : Type 0 where
  pub added : List (List ℕ)
  pub kept : new ≡ old ++ added
  pub named : All (Contains (labels_in false (parts text))) added
