-- Tables in order.
use Rattle.std.specs.Prelude.{◌≡◌, ℕ, List, [], ◌∷◌, true, Option, Some, None, map, slice_get}
use Rattle.cw_audit_table.specs.Tables.{PlainGroup}
use Rattle.cw_audit_table.specs.Conditions.{is_after, key_of, pair_of}

-- each comes after the one before, by its first number and then its second
abbrev pub AscendAfter : Option (ℕ × ℕ) → List (ℕ × ℕ) → Type 0
AscendAfter last [] = Unit {0}
AscendAfter last (k ∷ ks) = (is_after last k ≡ true) × AscendAfter (Some k) ks

-- The groups ascend, and so do the rows of each: so none is there twice.
pub record AreInOrder (groups : List PlainGroup) : Type 0 where
  pub groups_ascend : AscendAfter None (map key_of groups)
  pub rows_ascend : (i : ℕ) (grp : PlainGroup) → slice_get groups i ≡ Some grp → AscendAfter None (map pair_of grp.rows)
