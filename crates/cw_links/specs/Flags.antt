-- Flags of indices: how many come before an index, and values that stand for the flagged indices alone.
use Rattle.std.specs.Prelude.{ℕ, Bool, false, if◌then◌else◌, List, [], ◌∷◌, take, drop, slice_index_or}
use Rattle.std.specs.List.{count_by}

-- whether an index is flagged; none past the last is
abbrev pub is_flagged : List Bool → ℕ → Bool
is_flagged flags index = slice_index_or flags index false

-- how many indices are flagged
unfoldable pub number : List Bool → ℕ
number flags = count_by (λ flag. flag) flags

-- how many indices before this one are flagged
unfoldable pub rank : List Bool → ℕ → ℕ
rank flags index = number (take index flags)

-- a value for each index: the flagged indices have these in their order, all others have the default
abbrev pub spread_or : {A : Type 0} → A → List Bool → List A → List A
spread_or missing [] values = []
spread_or missing (flag ∷ flags) values =
    (if flag then slice_index_or values 0 missing else missing) ∷ spread_or missing flags (if flag then drop 1 values else values)

-- the same of numbers, with 0 at the indices that aren't flagged
abbrev pub spread : List Bool → List ℕ → List ℕ
spread flags values = spread_or 0 flags values
