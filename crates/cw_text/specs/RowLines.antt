-- What lines are made of: fields, a name with its fields, the end of a line.
use Rattle.std.specs.Prelude.{ℕ, List, ◌++◌, codes}
use Rattle.std.specs.List.{flat_map, join_by, enumerate_from}

-- the fields in a row, with a separator between each two
abbrev pub joined : List ℕ → List (List ℕ) → List ℕ
joined separator fields = join_by (λ field. field) separator fields

-- a name with its fields: `NAME(A,B)`
abbrev pub with_fields : List ℕ → List (List ℕ) → List ℕ
with_fields name fields = name ++ codes "(" ++ joined (codes ",") fields ++ codes ")"

-- one line for each row, by the number of the row, from 0
abbrev pub numbered : {A : Type 0} → (ℕ → A → List ℕ) → List A → List ℕ
numbered line_of rows = flat_map (λ row. line_of row.0 row.1) (enumerate_from 0 rows)
