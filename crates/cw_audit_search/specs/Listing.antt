-- The table that lists what a search found below a distance.
use Rattle.std.specs.Prelude.{◌≡◌, ℕ, List, Option, Some, None, map, slice_get}
use Rattle.cw_game.specs.Games.{Game}
use Rattle.cw_audit_table.specs.Tables.{PlainRow, PlainGroup, Audit}
use Rattle.cw_audit_table.specs.Conditions.{key_of, pair_of}
use Rattle.cw_audit_search.specs.Searches.{Found}
use Rattle.cw_audit_search.specs.Settled.{IsRowBelow}
use Rattle.cw_audit_search.specs.Ordered.{AscendAfter}

-- a group in the list with a row in it
pub record IsListed (groups : List PlainGroup) (f q r p x a : ℕ) : Type 0 where
  pub index : ℕ
  pub group : PlainGroup
  pub there : slice_get groups index ≡ Some group
  pub function : group.function ≡ f
  pub entered : group.entered ≡ q
  pub reach : group.reach ≡ r
  pub row_index : ℕ
  pub row : PlainRow
  pub stands : slice_get group.rows row_index ≡ Some row
  pub pos : row.pos ≡ p
  pub state : row.state ≡ x
  pub inside : row.inside ≡ a

-- The groups, and the rows of each, are those below the distance, in order; no group is empty.
pub record AreListed (s : Found) (D : Option ℕ) (groups : List PlainGroup) : Type 0 where
  pub groups_ascend : AscendAfter None (map key_of groups)
  pub rows_ascend : (i : ℕ) (grp : PlainGroup) → slice_get groups i ≡ Some grp → AscendAfter None (map pair_of grp.rows)
  pub some : (i : ℕ) (grp : PlainGroup) → slice_get groups i ≡ Some grp → (r : PlainRow) × (slice_get grp.rows 0 ≡ Some r)
  pub below : (i n : ℕ) (grp : PlainGroup) (r : PlainRow) → slice_get groups i ≡ Some grp → slice_get grp.rows n ≡ Some r
      → IsRowBelow s D grp.function grp.entered grp.reach r.pos r.state r.inside
  pub whole : (f q r p x a : ℕ) → IsRowBelow s D f q r p x a → IsListed groups f q r p x a

-- The table has the game's number of states, this distance, and the rows below it.
pub record IsListing (g : Game) (s : Found) (D : Option ℕ) (t : Audit) : Type 0 where
  pub states : t.states ≡ g.states.count
  pub distance : t.distance ≡ D
  pub groups : AreListed s D t.groups
