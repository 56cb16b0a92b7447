-- Working definitions: what the parts of the checker say of one row.
use Rattle.std.specs.Prelude.{◌≡◌, ℕ, ◌-◌, ◌<◌, List, ◌&&◌, ◌||◌, not, true, false, Bool, cond, Option, Some, None, nat_eq, nat_lt, slice_get, length}
use Rattle.cw_core.specs.declared.ids.PosId.{PosId}
use Rattle.cw_core.specs.declared.ids.MemId.{MemId}
use Rattle.cw_core.specs.declared.ids.StateId.{StateId}
use Rattle.cw_certs.specs.declared.rows.AtRow.{AtRow}
use Rattle.cw_certs.specs.declared.rows.IntoRow.{IntoRow}
use Rattle.cw_certs.specs.declared.rows.BackRow.{BackRow}
use Rattle.cw_certs.specs.Tables.{Table, same, into_at}
use Rattle.cw_game.specs.Games.{Game}
use Rattle.cw_game.specs.Pairs.{Called, has, is_live, leads_if}
use Rattle.cw_game.specs.Conditions.{visits_on, answers_on, is_good_pair, moves_on, begins_by, all_return, promise_of}
use Rattle.cw_game.specs.declared.spots.Spot.{Spot}
use Rattle.cw_wcheck.specs.declared.rows.LiveRow.{LiveRow}
use Rattle.cw_wcheck.specs.declared.calls.CallAt.{CallAt}

-- what stands at an index of the list of live rows is this position with this memory
abbrev pub stands_there : ℕ → ℕ → Option (PosId × MemId) → Bool
stands_there p m None = false
stands_there p m (Some r) = nat_eq r.0.0 p && nat_eq r.1.0 m

-- a row that is there has a position below this number
abbrev pub is_below : ℕ → Option (PosId × MemId) → Bool
is_below number None = false
is_below number (Some r) = nat_lt r.0.0 number

-- the row before an index has a position below this number, if there is one before it, and the row there has not
abbrev pub parts_at : ℕ → List (PosId × MemId) → ℕ → Bool
parts_at number rows i = (nat_eq i 0 || is_below number (slice_get rows (i - 1))) && not (is_below number (slice_get rows i))

-- what stands in the list of labels is the row of this seam with this memory
abbrev pub is_at : ℕ → ℕ → AtRow → Bool
is_at seam m r = nat_eq r.seam.0 seam && nat_eq r.mem.0 m

-- what stands in the list of calls is the row of this seam, plain or split, with this memory
abbrev pub is_into : ℕ → Bool → ℕ → IntoRow → Bool
is_into seam split m r = nat_eq r.seam.0 seam && (same r.split split && nat_eq r.mem.0 m)

-- what stands in the list of ways back is the row of such a call, from an end in this state
abbrev pub is_back : ℕ → Bool → ℕ → ℕ → BackRow → Bool
is_back seam split m exit r = nat_eq r.seam.0 seam && (same r.split split && (nat_eq r.mem.0 m && nat_eq r.exit.0 exit))

-- where the game gives a pair, the memory is there, means its state with the promise, and is live at its position
abbrev pub takes_pair : Table → ℕ → Option MemId → Option (ℕ × ℕ) → Bool
takes_pair t e m None = true
takes_pair t e m (Some pair) = leads_if t pair.0 m pair.1 e

-- where the game gives a pair, its position is live with the memory
abbrev pub lands_live : Table → ℕ → Option (ℕ × ℕ) → Bool
lands_live t m None = true
lands_live t m (Some pair) = is_live t pair.0 m

-- the condition that fails where a step leads to this position, if one does
abbrev pub step_fault : Table → ℕ → ℕ → Option ℕ
step_fault t next m = cond (is_live t next m) None (Some 6)

-- the one that fails where a branch leads to these positions
abbrev pub branch_fault : Table → ℕ → ℕ → ℕ → Option ℕ
branch_fault t left right m = cond (is_live t left m && is_live t right m) None (Some 6)

-- the one that fails where this function ends in a state
abbrev pub exit_fault : Game → ℕ → ℕ → ℕ → Option ℕ
exit_fault g q e function = cond (nat_eq function g.main || has e q) None (Some 9)

-- the one that fails where something is asked
abbrev pub asked_fault : Game → Table → ℕ → ℕ → ℕ → ℕ → Option Spot → Option ℕ
asked_fault g t p q m e s = cond (answers_on g t p q m e s) None (Some 5)

-- the one that fails where each move leads on
abbrev pub passing_fault : Game → Table → ℕ → ℕ → ℕ → ℕ → Option Spot → Option ℕ
passing_fault g t p q m e s = cond (is_good_pair g q s) (cond (moves_on g t p q m e s) None (Some 6)) (Some 3)

-- the one that fails at a call with this row in the list of calls
abbrev pub called_fault : Game → Table → ℕ → ℕ → ℕ → Called → Option IntoRow → Option ℕ
called_fault g t q m e c found = cond (begins_by g t q c found) (cond (all_return g t q m e c (promise_of t found)) None (Some 8)) (Some 7)

-- the one that fails where there may be a call
abbrev pub call_fault : Game → Table → ℕ → ℕ → ℕ → Option Called → Option ℕ
call_fault g t q m e None = None
call_fault g t q m e (Some c) = called_fault g t q m e c (into_at t c.seam c.split m)

-- the one that fails at a visit
abbrev pub visit_fault : Table → ℕ → ℕ → Option Spot → Option ℕ
visit_fault t p m s = cond (visits_on t p m s) None (Some 4)

-- the row's position is one of the game's, with what stands there, and its state is one of the game's
pub record IsRowOf (g : Game) (r : LiveRow) : Type 0 where
  pub position : r.pos.0 < length g.spots
  pub spot : Some r.spot ≡ slice_get g.spots r.pos.0
  pub state : r.state.0 < g.states.count

-- each memory means a state of the game
pub record MeanStates (g : Game) (t : Table) : Type 0 where
  pub each : (m : ℕ) (meant : StateId × ℕ) → slice_get t.mems m ≡ Some meant → meant.0.0 < g.states.count

-- a call as the definition has it
abbrev pub called_of : CallAt → Called
called_of c = record { seam = c.seam.0; function = c.function; back = c.back.0; split = c.split }
