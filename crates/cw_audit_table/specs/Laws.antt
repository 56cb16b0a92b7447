-- What holds of every program, game and table.
use Rattle.std.specs.Prelude.{◌≡◌, ℕ, ◌≤◌, List, Some, length}
use Rattle.cw_certs.specs.declared.moves.Move.{Move}
use Rattle.cw_model.specs.Boards.{Problem, Board}
use Rattle.cw_game.specs.Games.{Game}
use Rattle.cw_game.specs.Standing.{IsGameOf}
use Rattle.cw_audit_table.specs.Plays.{Played, IsViolating, IsVerdict, IsUnasked}
use Rattle.cw_audit_table.specs.Runs.{IsHit}
use Rattle.cw_audit_table.specs.Tables.{Audit}
use Rattle.cw_audit_table.specs.Conditions.{IsGoodAudit, IsShown, EndAlone}
use Rattle.cw_audit_table.specs.Stated.{IsStated, IsAttained}

-- In a play in which the weaver always skips nothing is ever asked: each move that counts is made at a board that is free.
abbrev pub NothingIsAsked : Type 0
NothingIsAsked = (p : Problem) (ms : List Move) (b : Board) → Played p ms b → IsUnasked b.phase

-- A game of the program has a run of n moves to a bad pair exactly where the program has a play of these moves to a violation.
pub record AreLinked (p : Problem) (g : Game) : Type 0 where
  pub to_game : (ms : List Move) → IsViolating p ms → IsHit g (length ms)
  pub to_program : (n : ℕ) → IsHit g n → (ms : List Move) × (length ms ≡ n) × IsViolating p ms

abbrev pub HitsAreViolations : Type 0
HitsAreViolations = (p : Problem) (g : Game) → IsGameOf p g → AreLinked p g

-- A table that meets the conditions bounds each play in which the weaver always skips: where the table has a distance no play violates by fewer moves, and
-- where it has none no play violates.
abbrev pub GoodAuditsHold : Type 0
GoodAuditsHold = (p : Problem) (g : Game) (functions : ℕ) (t : Audit) → IsGameOf p g → EndAlone g functions → IsGoodAudit g functions t
    → (ms : List Move) → IsViolating p ms → (T : ℕ) × (t.distance ≡ Some T) × (T ≤ length ms)

-- With moves that show it, the table's distance is the least there is.
abbrev pub ShownAuditsAreExact : Type 0
ShownAuditsAreExact = (p : Problem) (g : Game) (functions : ℕ) (t : Audit) → IsGameOf p g → EndAlone g functions → IsGoodAudit g functions t → IsShown g t
    → IsVerdict p t.distance

-- A table that meets the conditions, each of whose numbers is that of some run, is the game's table: each number is the least there is, and nothing is left out.
abbrev pub AttainedAuditsAreStated : Type 0
AttainedAuditsAreStated = (g : Game) (functions : ℕ) (t : Audit) → EndAlone g functions → IsGoodAudit g functions t → IsAttained g t → IsStated g t
