-- The table of a game: each number is the least there is, and each row that there is is in it.
use Rattle.std.specs.Prelude.{◌≡◌, ℕ, ◌+◌, ◌<◌, ◌≤◌, Option, Some, None}
use Rattle.cw_core.specs.Quantities.{limit_of}
use Rattle.cw_core.specs.declared.quantity.Quantity.TheVariants.{AuditMoves}
use Rattle.cw_game.specs.Games.{Game}
use Rattle.cw_audit_table.specs.Runs.{IsEntered, IsWithin, IsHit, IsCutLeast, IsShortest, cut}
use Rattle.cw_audit_table.specs.Tables.{PlainGroup, Audit, group_at, inside_at}

-- where the distance is at most 65,536 the table has only what is nearer than the violation
abbrev pub IsKeptBy : Option ℕ → ℕ → Type 0
IsKeptBy None n = Unit {0}
IsKeptBy (Some T) n = T ≤ limit_of AuditMoves → n < T

-- The distance is the least number of moves to a bad pair, or there is none. Each group that is looked up has as its reach the least number of moves from the start to its
-- entry, and each of its rows the least number from there to its pair in the same activation, both cut. What a run enters and comes to there has its row, but for what is no nearer than the distance.
pub record IsStated (g : Game) (t : Audit) : Type 0 where
  pub states : t.states ≡ g.states.count
  pub verdict : IsShortest g t.distance
  pub reached : (f q : ℕ) (grp : PlainGroup) → group_at t.groups f q ≡ Some grp → IsCutLeast (IsEntered g f q) grp.reach
  pub within : (f q p x a : ℕ) (grp : PlainGroup) → group_at t.groups f q ≡ Some grp → inside_at grp.rows p x ≡ Some a → IsCutLeast (IsWithin g f q p x) a
  pub kept : (f q p x a : ℕ) (grp : PlainGroup) → group_at t.groups f q ≡ Some grp → inside_at grp.rows p x ≡ Some a → IsKeptBy t.distance (grp.reach + a)
  pub whole : (f q p x n m : ℕ) → IsEntered g f q n → IsWithin g f q p x m → IsKeptBy t.distance (n + m)
      → (grp : PlainGroup) × (group_at t.groups f q ≡ Some grp) × ((a : ℕ) × (inside_at grp.rows p x ≡ Some a))

-- Each number of the table is that of some run, cut; with a distance, some run comes to a bad pair by so many moves, and each row is nearer.
pub record IsAttained (g : Game) (t : Audit) : Type 0 where
  pub entered : (f q : ℕ) (grp : PlainGroup) → group_at t.groups f q ≡ Some grp → (n : ℕ) × IsEntered g f q n × (grp.reach ≡ cut n)
  pub inside : (f q p x a : ℕ) (grp : PlainGroup) → group_at t.groups f q ≡ Some grp → inside_at grp.rows p x ≡ Some a → (n : ℕ) × IsWithin g f q p x n × (a ≡ cut n)
  pub hit : (T : ℕ) → t.distance ≡ Some T → IsHit g T × (T ≤ limit_of AuditMoves)
  pub nearer : (T f q p x a : ℕ) (grp : PlainGroup) → t.distance ≡ Some T → group_at t.groups f q ≡ Some grp → inside_at grp.rows p x ≡ Some a → grp.reach + a < T
