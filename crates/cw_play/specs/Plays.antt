-- Plays of a strategy by a tape: the weaver makes the moves of the tape, and the environment those of the rows.
use Rattle.std.specs.Prelude.{◌≡◌, ◌⊎◌, ℕ, List, [], ◌∷◌, ◌++◌, Bool, true, false, Some, slice_get}
use Rattle.cw_certs.specs.declared.moves.Move.{Move}
use Rattle.cw_certs.specs.declared.moves.Move.TheVariants.{On}
use Rattle.cw_certs.specs.Strategies.{How, Bad, Out, Both, Go, Into, Row, Strategy, back_of}
use Rattle.cw_dfa.specs.Verdicts.{IsVerdict}
use Rattle.cw_model.specs.Boards.{Problem, Free, FreeSplit, Board, start_board, letters, Violates, stop_answers, Moves, IsEnvironments}
use Rattle.cw_model.specs.Plays.{choice, row_by, is_at_call, is_at_end, Waiting}
use Rattle.cw_trace.specs.Traces.{Taken}
use Rattle.cw_play.specs.declared.end.PlayEnd.{PlayEnd}
use Rattle.cw_play.specs.declared.end.PlayEnd.TheVariants.{Violation, TapeSpent}

-- Where a play stands: its row and its board, and the backs of the open calls, the innermost first.
pub record Stand : Type 0 where
  pub row : ℕ
  pub board : Board
  pub waiting : Waiting

-- What a row of a play does: the move that is made there, the row and the backs of the stand after it, and what is left of the tape.
abbrev pub Follows : How → (state : ℕ) → Stand → List Move → Move → Stand → List Move → Type 0
Follows Bad state at tape by next rest = ⊥
Follows (Both skip tried) state at tape by next rest =
    (tries : Bool) × (by ≡ choice tries) × (tape ≡ choice tries ∷ rest) × (next.row ≡ row_by tries skip tried) × (next.waiting ≡ at.waiting)
Follows (Go move row) state at tape by next rest =
    (by ≡ move) × (rest ≡ tape) × (next.row ≡ row) × (next.waiting ≡ at.waiting) × IsEnvironments at.board
Follows (Into callee backs) state at tape by next rest =
    (by ≡ On) × (rest ≡ tape) × (next.row ≡ callee) × (next.waiting ≡ backs ∷ at.waiting)
    × ((at.board.phase ≡ Free) ⊎ (at.board.phase ≡ FreeSplit)) × (is_at_call at.board.stack ≡ true)
Follows Out state at tape by next rest =
    (by ≡ On) × (rest ≡ tape) × (at.board.phase ≡ Free) × (is_at_end at.board.stack ≡ true)
    × ((backs : List (ℕ × ℕ)) × (at.waiting ≡ backs ∷ next.waiting) × (back_of backs state ≡ Some next.row))

-- One step of a play: it follows the row, and the move is one of the board, none of the environment's a refusal that a stop can answer.
pub record Goes (p : Problem) (s : Strategy) (at : Stand) (tape : List Move) (by : Move) (next : Stand) (rest : List Move) : Type 0 where
  pub row : Row
  pub has : slice_get s.rows at.row ≡ Some row
  pub follows : Follows row.how row.state at tape by next rest
  pub moves : Moves p at.board by next.board
  pub unanswered : stop_answers p.policy at.board.caps at.board.phase by ≡ false

-- Where a play ends: at a row that is bad, where the board violates, with the least rule that its word breaks; or, at the weaver's turn,
-- where no entry is left.
abbrev pub EndsBy : Problem → Board → List Move → How → PlayEnd → Type 0
EndsBy p b tape Bad (Violation rule) = Violates p b × IsVerdict p.policy.rules (b.word ++ letters b.stack b.caps) (Some rule)
EndsBy p b tape (Both skip tried) TapeSpent = tape ≡ []
EndsBy p b tape how end = ⊥

-- The play ends at this stand: its row is there, and says so.
pub record Ends (p : Problem) (s : Strategy) (at : Stand) (tape : List Move) (end : PlayEnd) : Type 0 where
  pub row : Row
  pub has : slice_get s.rows at.row ≡ Some row
  pub ends : EndsBy p at.board tape row.how end

-- These are the moves of a play from a stand on, with the boards after them.
abbrev pub Plays : Problem → Strategy → Stand → List Move → PlayEnd → List Taken → Type 0
Plays p s at tape end [] = Ends p s at tape end
Plays p s at tape end (taken ∷ later) =
    (next : Stand) × (rest : List Move) × (next.board ≡ taken.next) × Goes p s at tape taken.by next rest × Plays p s next rest end later

-- The play by a tape from a row at the start.
abbrev pub IsPlayBy : Problem → Strategy → ℕ → List Move → PlayEnd → List Taken → Type 0
IsPlayBy p s row tape end steps = Plays p s (record { row = row; board = start_board p; waiting = [] }) tape end steps

-- For each row and tape there is one play at most, with one end.
abbrev pub OnePlayByATape : Type 0
OnePlayByATape = (p : Problem) (s : Strategy) (row : ℕ) (tape : List Move) (one other : PlayEnd) (steps others : List Taken)
    → IsPlayBy p s row tape one steps → IsPlayBy p s row tape other others → (one ≡ other) × (steps ≡ others)
