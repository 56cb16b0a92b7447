-- Lists of cells, seen as a list of lists of numbers.
use Rattle.std.specs.Prelude.{ℕ, ◌<◌, not, ◌==◌, List, [], ◌∷◌, map, slice_set, slice_index_or, refl, All, Contains}
use Rattle.std.specs.List.{filter, concat, IsDistinct}
use Rattle.std.specs.Coded.{Coded, code_by, coded×, coded_ℕ, coded_list}

-- the cells of each list, the value of each cell, and how many more cells have their memory already
pub record Chained (T : Type 0) : Type 0 where
  pub lists : List (List ℕ)
  pub values : List T
  pub spare : ℕ

-- they are stored as the tuple of the fields
abbrev pub chained_code : {T : Type 0} → Coded T → Coded (Chained T)
chained_code {T} code =
    code_by (List (List ℕ) × (List T × ℕ)) (coded× (coded_list (coded_list coded_ℕ)) (coded× (coded_list code) coded_ℕ)) (λ c. (c.lists, (c.values, c.spare)))
    (λ p. record { lists = p.0; values = p.1.0; spare = p.1.1 }) (λ _. refl)

-- the cells of one list
abbrev pub list_at : List (List ℕ) → ℕ → List ℕ
list_at lists list = slice_index_or lists list []

-- the lists with the cell taken out
abbrev pub without : List (List ℕ) → ℕ → List (List ℕ)
without lists cell = map (filter (λ other. not (other == cell))) lists

-- the lists with the cell in front of one of them
abbrev pub with_front : List (List ℕ) → ℕ → ℕ → List (List ℕ)
with_front lists list cell = slice_set lists list (cell ∷ list_at lists list)

-- the cell stands in no list
abbrev pub IsUnlinked : List (List ℕ) → ℕ → Type 0
IsUnlinked lists cell = All (λ list. ¬ Contains list cell) lists

-- what stands in the lists is below the number of cells, and stands there once
pub record AreApart (lists : List (List ℕ)) (cells : ℕ) : Type 0 where
  pub known : All (λ cell. cell < cells) (concat lists)
  pub once : IsDistinct ◌==◌ (concat lists)
