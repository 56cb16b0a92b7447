-- Rows in order, in groups.
use Rattle.std.specs.Prelude.{◌≡◌, ◌⊎◌, ℕ, ◌<◌, List, [], ◌∷◌, ◌++◌, Option, Some, slice_get}
use Rattle.std.specs.List.{AllByRecursion}
use Rattle.cw_audit_table.specs.Tables.{PlainRow, PlainGroup}
use Rattle.cw_audit_search.specs.Searches.{Found}
use Rattle.cw_audit_search.specs.Settled.{IsRowBelow}
use Rattle.cw_audit_search.specs.Counted.{RowKey, row_keys_of}

-- the second comes after the first, by its first number and then its second; a row key, by its entrance and then its pair
abbrev pub IsAfter : ℕ × ℕ → ℕ × ℕ → Type 0
IsAfter a b = (a.0 < b.0) ⊎ ((a.0 ≡ b.0) × (a.1 < b.1))

abbrev pub IsRowKeyAfter : RowKey → RowKey → Type 0
IsRowKeyAfter k j = IsAfter (k.0, k.1) (j.0, j.1) ⊎ (((k.0 ≡ j.0) × (k.1 ≡ j.1)) × IsAfter (k.2, k.3) (j.2, j.3))

abbrev pub Ascend : List RowKey → Type 0
Ascend [] = Unit {0}
Ascend (k ∷ ks) = AllByRecursion (IsRowKeyAfter k) ks × Ascend ks

-- the group has the reach that was found and a row, and each of its rows the number that was found
abbrev pub IsRowRight : Found → PlainGroup → PlainRow → Type 0
IsRowRight s grp r = s.number grp.function grp.entered r.pos r.state ≡ Some r.inside

pub record IsRight (s : Found) (grp : PlainGroup) : Type 0 where
  pub reach : s.reach grp.function grp.entered ≡ Some grp.reach
  pub some : (r : PlainRow) × (slice_get grp.rows 0 ≡ Some r)
  pub rows : AllByRecursion (IsRowRight s grp) grp.rows

-- what comes behind the group doesn't begin in it
abbrev pub EndsBefore : PlainGroup → List RowKey → Type 0
EndsBefore grp [] = Unit {0}
EndsBefore grp (k ∷ ks) = (k.0 ≡ grp.function) → (k.1 ≡ grp.entered) → ⊥

-- so it is behind each group, with these row keys behind the last
abbrev pub AreApart : List PlainGroup → List RowKey → Type 0
AreApart [] rest = Unit {0}
AreApart (grp ∷ groups) rest = EndsBefore grp (row_keys_of groups ++ rest) × AreApart groups rest

-- These row keys, in these groups, and then the rest.
pub record AreGrouped (s : Found) (row_keys rest : List RowKey) (groups : List PlainGroup) : Type 0 where
  pub whole : row_keys ≡ row_keys_of groups ++ rest
  pub right : AllByRecursion (IsRight s) groups
  pub apart : AreApart groups rest

-- the row keys are those of the rows below the distance
pub record AreBelow (s : Found) (D : Option ℕ) (row_keys : List RowKey) : Type 0 where
  pub found : (m : ℕ) (k : RowKey) → slice_get row_keys m ≡ Some k → (r : ℕ) × (a : ℕ) × IsRowBelow s D k.0 k.1 r k.2 k.3 a
  pub whole : (f q r p x a : ℕ) → IsRowBelow s D f q r p x a → (m : ℕ) × (slice_get row_keys m ≡ Some (f, q, p, x))
