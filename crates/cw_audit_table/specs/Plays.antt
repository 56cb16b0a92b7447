-- Plays of a program as it is: the weaver always skips. What counts are the program's own moves.
use Rattle.std.specs.Prelude.{◌≡◌, ℕ, ◌≤◌, List, [], ◌∷◌, ◌++◌, length, Option, Some, None}
use Rattle.cw_certs.specs.declared.moves.Move.{Move}
use Rattle.cw_certs.specs.declared.moves.Move.TheVariants.{Skip}
use Rattle.cw_model.specs.Boards.{Problem, Phase, Visit, Free, Over, Board, start_board, Violates, Moves, IsEnvironments}

-- A board that a play from the start comes to, in which the weaver always skips, with the moves of the program on the way, in order. A skip doesn't count.
pub data Played (p : Problem) : List Move → Board → Type 0 where
  begins : Played p [] (start_board p)
  skips : (ms : List Move) (b next : Board) → Played p ms b → Moves p b Skip next → Played p ms next
  goes : (ms : List Move) (b next : Board) (by : Move) → Played p ms b → IsEnvironments b → Moves p b by next → Played p (ms ++ by ∷ []) next

-- such a play comes to a violation by these moves
abbrev pub IsViolating : Problem → List Move → Type 0
IsViolating p ms = (b : Board) × Played p ms b × Violates p b

-- The audit distance: the least number of the program's moves by which such a play comes to a violation.
abbrev pub IsDistance : Problem → ℕ → Type 0
IsDistance p T = ((ms : List Move) × (length ms ≡ T) × IsViolating p ms) × ((ms : List Move) → IsViolating p ms → T ≤ length ms)

-- what an audit says: that no such play violates, or the distance
abbrev pub IsVerdict : Problem → Option ℕ → Type 0
IsVerdict p None = (ms : List Move) → IsViolating p ms → ⊥
IsVerdict p (Some T) = IsDistance p T

-- nothing is asked there: a primitive is before the weaver, or the program moves, or all is over
abbrev pub IsUnasked : Phase → Type 0
IsUnasked (Visit stage a later) = Unit {0}
IsUnasked Free = Unit {0}
IsUnasked Over = Unit {0}
IsUnasked _ = ⊥
