-- Woven runs by a tape: the environment makes the moves of the tape, and the weaver all its moves up to the environment's next turn.
use Rattle.std.specs.Prelude.{◌≡◌, ℕ, List, [], ◌∷◌, ◌++◌, take, map, Option, Some, None, slice_get}
use Rattle.cw_certs.specs.declared.moves.Move.{Move}
use Rattle.cw_certs.specs.Tables.{Table}
use Rattle.cw_model.specs.Boards.{Problem, Over, Board, Party, Weaver, Environment, Moves, turn_of, IsWeavers}
use Rattle.cw_model.specs.Runs.{State, start_state, WovenStep}
use Rattle.cw_trace.specs.Traces.{Names, Taken, trace}

-- A step of a woven run: the move, and the state after it.
pub record Step : Type 0 where
  pub by : Move
  pub next : State

-- each step is one of the woven program
abbrev pub Follows : Problem → Table → State → List Step → Type 0
Follows p t s [] = Unit {0}
Follows p t s (step ∷ later) = WovenStep p t s step.by step.next × Follows p t step.next later

abbrev pub state_after : State → List Step → State
state_after s [] = s
state_after s (step ∷ later) = state_after step.next later

-- the move, where it is the environment's turn
abbrev pub entry_by : Option Party → Move → List Move
entry_by (Some Environment) by = by ∷ []
entry_by (Some Weaver) by = []
entry_by None by = []

-- the moves that the environment makes, in order
abbrev pub entries_of : State → List Step → List Move
entries_of s [] = []
entries_of s (step ∷ later) = entry_by (turn_of s.board.phase) step.by ++ entries_of step.next later

-- How a run by a tape ends: all is over as the tape ends; the tape ends before; the entry with this number, from 0, is no move of the board.
pub data End : Type 0 where
  Ended : End
  TapeSpent : End
  BadMove : ℕ → End

abbrev pub IsNoMove : Problem → Board → Move → Type 0
IsNoMove p b by = (next : Board) → Moves p b by next → ⊥

-- what has been read of the tape, and what holds where the run ends
abbrev pub EndsBy : Problem → List Move → End → Board → List Move → Type 0
EndsBy p tape Ended b entries = (entries ≡ tape) × (b.phase ≡ Over)
EndsBy p tape TapeSpent b entries = (entries ≡ tape) × (b.phase ≡ Over → ⊥)
EndsBy p tape (BadMove i) b entries = (entries ≡ take i tape) × ((by : Move) × (slice_get tape i ≡ Some by) × IsNoMove p b by)

-- These are the steps of the woven run by the tape, from this state on.
pub record Runs (p : Problem) (t : Table) (s : State) (tape : List Move) (end : End) (steps : List Step) : Type 0 where
  pub follows : Follows p t s steps
  -- the weaver has made its moves, after the last entry too
  pub rests : IsWeavers (state_after s steps).board → ⊥
  pub ends : EndsBy p tape end (state_after s steps).board (entries_of s steps)

-- The woven run by a tape, from the start.
abbrev pub IsRunBy : Problem → Table → List Move → End → List Step → Type 0
IsRunBy p t tape end steps = Runs p t (start_state p t) tape end steps

abbrev pub taken_of : Step → Taken
taken_of step = record { by = step.by; next = step.next.board }

-- the trace of a woven run
abbrev pub run_trace : Names → Problem → List Step → List ℕ
run_trace names p steps = trace names p (map taken_of steps)

-- For each tape there is one woven run at most, with one end.
abbrev pub OneRunByATape : Type 0
OneRunByATape = (p : Problem) (t : Table) (tape : List Move) (one other : End) (steps others : List Step)
    → IsRunBy p t tape one steps → IsRunBy p t tape other others → (one ≡ other) × (steps ≡ others)
