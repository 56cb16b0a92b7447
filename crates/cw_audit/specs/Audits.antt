-- What an audit promises.
use Rattle.std.specs.Prelude.{◌≡◌, ℕ, ◌<◌, ◌≤◌, [], Option, Some, None}
use Rattle.cw_core.specs.Quantities.{limit_of}
use Rattle.cw_core.specs.declared.quantity.Quantity.TheVariants.{Rows, AuditMoves}
use Rattle.cw_model.specs.Boards.{Problem}
use Rattle.cw_game.specs.Games.{Game}
use Rattle.cw_audit_table.specs.Plays.{IsViolating}
use Rattle.cw_audit_table.specs.Runs.{IsHit}
use Rattle.cw_audit_table.specs.Tables.{Audit}
use Rattle.cw_audit_table.specs.Conditions.{IsGoodAudit, IsShown}
use Rattle.cw_audit_table.specs.Stated.{IsStated}
use Rattle.cw_audit_search.specs.Counted.{row_count}
use Rattle.cw_audit_search.specs.Ordered.{AreInOrder}
use Rattle.cw_audit.specs.declared.fault.AuditFault.{AuditFault}
use Rattle.cw_audit.specs.declared.fault.AuditFault.TheVariants.{TooManyRows, TooManyMoves, NoMemory}

-- a distance that is told
abbrev pub IsFew : Option ℕ → Type 0
IsFew None = Unit {0}
IsFew (Some T) = T ≤ limit_of AuditMoves

-- without a distance there are no moves
abbrev pub AreNeeded : Audit → Type 0
AreNeeded t = t.distance ≡ None → t.moves ≡ []

-- where there is a distance, the moves are those of a play of the program to a violation, in which the weaver always skips
abbrev pub IsPlayed : Problem → Audit → Type 0
IsPlayed p t = (T : ℕ) → t.distance ≡ Some T → IsViolating p t.moves

-- The table is the game's, and meets the conditions; its moves show its distance; its rows are at most 65,536, and so are its moves.
pub record IsAuditOf (g : Game) (functions : ℕ) (t : Audit) : Type 0 where
  pub stated : IsStated g t
  pub good : IsGoodAudit g functions t
  pub shown : IsShown g t
  pub needed : AreNeeded t
  pub few_rows : row_count t ≤ limit_of Rows
  pub few_moves : IsFew t.distance

-- each table of the game has more rows than are written
abbrev pub AreManyRows : Game → Type 0
AreManyRows g = (t : Audit) → IsStated g t → limit_of Rows < row_count t

-- Some run comes to a bad pair, each by more moves than are written; no table of the game that is in order has too many rows.
pub record AreManyMoves (g : Game) : Type 0 where
  pub hit : (n : ℕ) × IsHit g n
  pub far : (n : ℕ) → IsHit g n → limit_of AuditMoves < n
  pub few_rows : (t : Audit) → AreInOrder t.groups → IsStated g t → row_count t ≤ limit_of Rows

abbrev pub IsFaultOf : Game → AuditFault → Type 0
IsFaultOf g TooManyRows = AreManyRows g
IsFaultOf g TooManyMoves = AreManyMoves g
IsFaultOf g NoMemory = Unit {0}
