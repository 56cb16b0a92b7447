-- Working definitions: what a row of a strategy does, as the code goes from row to row.
use Rattle.std.specs.Prelude.{◌≡◌, ℕ, zero, suc, ◌+◌, List, [], ◌∷◌, Bool, true, false, Option, Some, None, option_map, slice_get}
use Rattle.cw_certs.specs.declared.moves.Move.{Move}
use Rattle.cw_certs.specs.declared.moves.Move.TheVariants.{Try, On}
use Rattle.cw_certs.specs.Strategies.{How, Bad, Out, Both, Go, Into, Row, Strategy, back_of}
use Rattle.cw_model.specs.Plays.{row_by}
use Rattle.cw_game.specs.Games.{Game}
use Rattle.cw_states.specs.States.{Lists}
use Rattle.cw_product.specs.Moves.{violated_at}
use Rattle.cw_play.specs.declared.end.PlayEnd.{PlayEnd}
use Rattle.cw_play.specs.declared.end.PlayEnd.TheVariants.{Violation, TapeSpent}

-- the backs of a row's call; a row that calls nothing has none
abbrev pub backs_in : How → List (ℕ × ℕ)
backs_in (Into callee backs) = backs
backs_in how = []

abbrev pub backs_if : Option Row → List (ℕ × ℕ)
backs_if None = []
backs_if (Some r) = backs_in r.how

-- the backs that the row with this number has
abbrev pub backs_at : Strategy → ℕ → List (ℕ × ℕ)
backs_at s row = backs_if (slice_get s.rows row)

-- the move that is made at a row, where the weaver's next entry is this one; none where the play ends
abbrev pub move_in : How → Option Move → Option Move
move_in Bad entry = None
move_in Out entry = Some On
move_in (Both skip tried) entry = entry
move_in (Go by row) entry = Some by
move_in (Into callee backs) entry = Some On

abbrev pub is_try : Move → Bool
is_try Try = true
is_try by = false

-- the row after a move that is made at a row, and the rows of the calls that are open then, the innermost first
abbrev pub after_in : Strategy → How → (at state : ℕ) → Move → (calls : List ℕ) → Option (ℕ × List ℕ)
after_in s Bad at state by calls = None
after_in s (Both skip tried) at state by calls = Some (row_by (is_try by) skip tried, calls)
after_in s (Go move row) at state by calls = Some (row, calls)
after_in s (Into callee backs) at state by calls = Some (callee, at ∷ calls)
after_in s Out at state by [] = None
after_in s Out at state by (caller ∷ calls) = option_map (λ row. (row, calls)) (back_of (backs_at s caller) state)

-- how many entries of the tape a row takes
abbrev pub entries_in : How → ℕ
entries_in (Both skip tried) = 1
entries_in how = 0

-- 2 to the power n, less 1: so many moves at most are made from a row below n on, up to the end of its frame
unfoldable pub moves_below : ℕ → ℕ
moves_below zero = 0
moves_below (suc n) = suc (moves_below n + moves_below n)

-- so many moves at most are still to come after the returns of the open calls, and in all
abbrev pub calls_left : List ℕ → ℕ
calls_left [] = 0
calls_left (caller ∷ calls) = moves_below caller + calls_left calls

abbrev pub moves_left : (at : ℕ) → (calls : List ℕ) → ℕ
moves_left at calls = moves_below (suc at) + calls_left calls

-- how a play ends at a row: it is bad, or the weaver's next entry is wanting
abbrev pub EndsAt : Game → Lists → Row → Option Move → PlayEnd → Type 0
EndsAt g v r entry (Violation rule) = (r.how ≡ Bad) × (violated_at v r.state (slice_get g.spots r.pos) ≡ Some rule)
EndsAt g v r entry TapeSpent = (skip : ℕ) × (tried : ℕ) × (r.how ≡ Both skip tried) × (entry ≡ None)
