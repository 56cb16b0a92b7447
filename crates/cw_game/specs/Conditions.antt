-- The conditions of a table and of a strategy, with their numbers: each asks one thing, and what fails first is told with its row.
use Rattle.std.specs.Prelude.{◌≡◌, ℕ, ◌+◌, ◌^◌, List, [], ◌∷◌, ◌++◌, map, length, Bool, true, false, cond, not, ◌&&◌, ◌||◌, Option, Some, None, is_some, option_map, nat_eq, nat_lt, slice_get}
use Rattle.std.specs.List.{list_all, list_any, enumerate_from, range_with_len}
use Rattle.cw_core.specs.declared.ids.SeamId.{SeamId}
use Rattle.cw_core.specs.declared.ids.StateId.{StateId}
use Rattle.cw_core.specs.declared.ids.MemId.{MemId}
use Rattle.cw_core.specs.declared.ids.PosId.{PosId}
use Rattle.cw_certs.specs.declared.moves.Move.{Move}
use Rattle.cw_certs.specs.declared.moves.Move.TheVariants.{Skip, Try, Grant, Refuse, On, Left, Right, Opened, Failed}
use Rattle.cw_certs.specs.declared.rows.TryRow.{TryRow}
use Rattle.cw_certs.specs.declared.rows.AtRow.{AtRow}
use Rattle.cw_certs.specs.declared.rows.OpenRow.{OpenRow}
use Rattle.cw_certs.specs.declared.rows.IntoRow.{IntoRow}
use Rattle.cw_certs.specs.declared.rows.BackRow.{BackRow}
use Rattle.cw_certs.specs.Tables.{Table, try_at, after_at, open_at, into_at, back_at}
use Rattle.cw_certs.specs.Strategies.{How, Bad, Out, Both, Go, Into, Row, Strategy, back_of}
use Rattle.cw_model.specs.Runs.{by_success}
use Rattle.cw_game.specs.declared.spots.Spot.{Spot}
use Rattle.cw_game.specs.declared.spots.Spot.TheVariants.{Visit, Asked, Step, Branch, Label, Open, Close, Call, SplitCall, Exit}
use Rattle.cw_game.specs.Games.{Game, resumed_in, returned, Config, leads_in, bad_in, weavers_in}
use Rattle.cw_game.specs.Pairs.{has, all_states, is_live, leads, leads_if, Called, call_in, is_call_in, is_exit_in, kept_at}

-- the first of some conditions that fails
abbrev pub first_failing : {A : Type 0} → List (A × Bool) → Option A
first_failing [] = None
first_failing (c ∷ cs) = cond c.1 (first_failing cs) (Some c.0)

-- Numbers in range.
abbrev pub is_state : Game → ℕ → Bool
is_state g q = nat_lt q g.states.count

-- a set of states alone
abbrev pub is_set : Game → ℕ → Bool
is_set g set = nat_lt set (2 ^ g.states.count)

abbrev pub is_position : Game → ℕ → Bool
is_position g p = nat_lt p (length g.spots)

abbrev pub is_memory : Table → MemId → Bool
is_memory t m = nat_lt m.0 (length t.mems)

abbrev pub is_memory_if : Table → Option MemId → Bool
is_memory_if t None = true
is_memory_if t (Some m) = is_memory t m

-- a position has this seam; it visits this stage of the seam
abbrev pub has_seam : ℕ → Spot → Bool
has_seam j (Visit k i a) = nat_eq k j
has_seam j (Asked k i a) = nat_eq k j
has_seam j (Label k l n) = nat_eq k j
has_seam j (Open k d n) = nat_eq k j
has_seam j (Close k d n) = nat_eq k j
has_seam j (Call k f n) = nat_eq k j
has_seam j (SplitCall k f n) = nat_eq k j
has_seam j _ = false

abbrev pub has_stage : ℕ → ℕ → Spot → Bool
has_stage j i (Visit k h a) = nat_eq k j && nat_eq h i
has_stage j i _ = false

abbrev pub is_seam : Game → SeamId → Bool
is_seam g j = list_any (has_seam j.0) g.spots

abbrev pub is_stage : Game → SeamId → ℕ → Bool
is_stage g j i = list_any (has_stage j.0 i) g.spots

-- The nine conditions of a table. A live row stands at the position p, where s stands, with the memory m, which means the state q with the
-- promise e.

-- 1: the number of states is the game's, the start memory is there, and the numbers of each row are in range, list by list.
abbrev pub is_header : Game → Table → Bool
is_header g t = nat_eq t.states g.states.count && is_memory t t.start

abbrev pub is_mem_row : Game → StateId × ℕ → Bool
is_mem_row g r = is_state g r.0.0 && is_set g r.1

abbrev pub is_live_row : Game → Table → PosId × MemId → Bool
is_live_row g t r = is_position g r.0.0 && is_memory t r.1

abbrev pub is_try_row : Game → Table → TryRow → Bool
is_try_row g t r = is_stage g r.seam r.stage && (is_memory t r.mem && (is_memory_if t r.granted && is_memory_if t r.refused))

abbrev pub is_at_row : Game → Table → AtRow → Bool
is_at_row g t r = is_seam g r.seam && (is_memory t r.mem && is_memory t r.after)

abbrev pub is_open_row : Game → Table → OpenRow → Bool
is_open_row g t r = is_seam g r.seam && (is_memory t r.mem && (is_memory t r.opened && is_memory t r.failed))

abbrev pub is_into_row : Game → Table → IntoRow → Bool
is_into_row g t r = is_seam g r.seam && (is_memory t r.mem && is_memory t r.callee)

abbrev pub is_back_row : Game → Table → BackRow → Bool
is_back_row g t r = is_seam g r.seam && (is_memory t r.mem && (is_state g r.exit.0 && is_memory t r.after))

-- 2: the start memory is the start state with all states as promise, and it is live at the start position.
abbrev pub begins : Game → Table → Bool
begins g t = leads t (g.entry g.main) t.start.0 g.states.start (all_states g)

-- 3: the pair isn't bad.
abbrev pub is_good_pair : Game → ℕ → Option Spot → Bool
is_good_pair g q s = not (bad_in g q s)

-- 4: at a visit the skip's position is live with m where there is no try row, and what is asked where there is one.
abbrev pub visits_on : Table → ℕ → ℕ → Option Spot → Bool
visits_on t p m (Some (Visit j i a)) = is_live t (cond (is_some (try_at t j i m)) (p + 1) (p + 2)) m
visits_on t p m _ = true

-- where the game gives a pair, the memory is there, means its state with the promise, and is live at its position
abbrev pub takes : Table → ℕ → Option MemId → Option Config → Bool
takes t e m None = true
takes t e m (Some c) = leads_if t c.pos m c.state e

-- the same of the pair at which going on arrives after a refusal that a stop can answer, where the row has a memory for it
abbrev pub takes_on : Table → ℕ → Option MemId → Option (ℕ × ℕ) → Bool
takes_on t e (Some m) (Some pair) = leads t pair.0 m.0 pair.1 e
takes_on t e _ _ = true

abbrev pub takes_answers : Game → Table → ℕ → ℕ → ℕ → Option Spot → Option TryRow → Bool
takes_answers g t p q e s None = false
takes_answers g t p q e s (Some r) =
    takes t e r.granted (leads_in g p q [] s Grant) && (takes t e r.refused (leads_in g p q [] s Refuse) && takes_on t e r.refused (resumed_in g p q s))

-- 5: where something is asked there is a try row, and each answer of the game is taken by its memory; where a stop can answer a refusal and
-- the row has a memory for refusals, going on is taken by it.
abbrev pub answers_on : Game → Table → ℕ → ℕ → ℕ → ℕ → Option Spot → Bool
answers_on g t p q m e (Some (Asked j i a)) = takes_answers g t p q e (Some (Asked j i a)) (try_at t j i m)
answers_on g t p q m e _ = true

-- the memory after a move: that of the row for a label, an open and a close, and m itself after all else
abbrev pub memory_after : Table → ℕ → Spot → Move → Option MemId
memory_after t m (Label j l n) by = option_map (λ r. r.after) (after_at t.ats j m)
memory_after t m (Open j d n) by = option_map (λ r. by_success by r.opened r.failed) (open_at t j m)
memory_after t m (Close j d n) by = option_map (λ r. r.after) (after_at t.closed j m)
memory_after t m _ by = Some (record { 0 = m })

abbrev pub is_passing : Spot → Bool
is_passing (Step n) = true
is_passing (Branch left right) = true
is_passing (Label j l n) = true
is_passing (Open j d n) = true
is_passing (Close j d n) = true
is_passing _ = false

abbrev pub moves_by : Game → Table → ℕ → ℕ → ℕ → ℕ → Spot → Move → Bool
moves_by g t p q m e s by = takes t e (memory_after t m s by) (leads_in g p q [] (Some s) by)

-- 6: at any other position that is no call and no exit, each move is taken by the memory after it.
abbrev pub moves_on : Game → Table → ℕ → ℕ → ℕ → ℕ → Option Spot → Bool
moves_on g t p q m e None = true
moves_on g t p q m e (Some s) = not (is_passing s) || list_all (moves_by g t p q m e s) (On ∷ Left ∷ Right ∷ Opened ∷ Failed ∷ [])

-- the memory is there and means this state with some promise
abbrev pub means_state : Option (StateId × ℕ) → ℕ → Bool
means_state None q = false
means_state (Some r) q = nat_eq r.0.0 q

abbrev pub begins_by : Game → Table → ℕ → Called → Option IntoRow → Bool
begins_by g t q c None = false
begins_by g t q c (Some r) = means_state (slice_get t.mems r.callee.0) q && is_live t (g.entry c.function) r.callee.0

-- 7: at a call its row is there, whose memory means q with some promise and is live at the entry of the function.
abbrev pub calls_on : Game → Table → ℕ → ℕ → Option Called → Bool
calls_on g t q m None = true
calls_on g t q m (Some c) = begins_by g t q c (into_at t c.seam c.split m)

-- the promise of the memory with which the function begins
abbrev pub promise_of : Table → Option IntoRow → Option ℕ
promise_of t None = None
promise_of t (Some r) = option_map (λ meant. meant.1) (slice_get t.mems r.callee.0)

-- the row for the way back, at an exit in this state
abbrev pub back_by : Table → Called → ℕ → ℕ → Option BackRow → Bool
back_by t c q e None = false
back_by t c q e (Some r) = leads t c.back r.after.0 q e

-- this memory has its way back, if its promise is this one
abbrev pub returns_by : Game → Table → ℕ → ℕ → ℕ → Called → ℕ → Option (StateId × ℕ) → Bool
returns_by g t q m e c promise None = true
returns_by g t q m e c promise (Some r) =
    not (nat_eq r.1 promise) || back_by t c (returned g.states (kept_at c.split q) r.0.0) e (back_at t c.seam c.split m r.0.0)

abbrev pub all_return : Game → Table → ℕ → ℕ → ℕ → Called → Option ℕ → Bool
all_return g t q m e c None = true
all_return g t q m e c (Some promise) =
    list_all (λ r. not (nat_eq r.0.0 (g.exit c.function)) || returns_by g t q m e c promise (slice_get t.mems r.1.0)) t.live

-- 8: for each memory with that promise that is live at the function's exit there is a row for its state, whose memory means the state after the
-- return with the promise e, and is live at the position after it.
abbrev pub returns_on : Game → Table → ℕ → ℕ → ℕ → Option Called → Bool
returns_on g t q m e None = true
returns_on g t q m e (Some c) = all_return g t q m e c (promise_of t (into_at t c.seam c.split m))

-- 9: at the exit of a function other than `main` the state is promised.
abbrev pub keeps_promise : Game → ℕ → ℕ → Option Spot → Bool
keeps_promise g q e (Some (Exit f)) = nat_eq f g.main || has e q
keeps_promise g q e _ = true

abbrev pub live_conditions : Game → Table → ℕ → ℕ → ℕ → ℕ → Option Spot → List (ℕ × Bool)
live_conditions g t p q m e s =
    (3, is_good_pair g q s)
    ∷ (4, visits_on t p m s)
    ∷ (5, answers_on g t p q m e s)
    ∷ (6, moves_on g t p q m e s)
    ∷ (7, calls_on g t q m (call_in s))
    ∷ (8, returns_on g t q m e (call_in s))
    ∷ (9, keeps_promise g q e s)
    ∷ []

-- The lists of a table, in order, and a condition that fails of a row of one of them, counted from 0.
pub data Part : Type 0 where
  InMems : Part
  InLive : Part
  InTries : Part
  InAts : Part
  InOpened : Part
  InClosed : Part
  InInto : Part
  InBack : Part

-- Which list of a table, which of its rows, and the number of the condition.
pub record TableFault : Type 0 where
  pub part : Part
  pub row : ℕ
  pub condition : ℕ

abbrev pub fault_at : Part → ℕ → ℕ → TableFault
fault_at part row condition = record { part = part; row = row; condition = condition }

-- condition 1 of the rows of a list
abbrev pub in_range : {A : Type 0} → Part → (A → Bool) → List A → List (TableFault × Bool)
in_range part test rows = map (λ r. (fault_at part r.0 1, test r.1)) (enumerate_from 0 rows)

abbrev pub ranges : Game → Table → List (TableFault × Bool)
ranges g t =
    in_range InMems (is_mem_row g) t.mems
    ++ in_range InLive (is_live_row g t) t.live
    ++ in_range InTries (is_try_row g t) t.tries
    ++ in_range InAts (is_at_row g t) t.ats
    ++ in_range InOpened (is_open_row g t) t.opened
    ++ in_range InClosed (is_at_row g t) t.closed
    ++ in_range InInto (is_into_row g t) t.into
    ++ in_range InBack (is_back_row g t) t.back

-- Conditions 3 to 9, row by row of `live`.
abbrev pub live_by : Game → Table → ℕ → ℕ → Option (StateId × ℕ) → List (ℕ × Bool)
live_by g t p m None = []
live_by g t p m (Some r) = live_conditions g t p r.0.0 m r.1 (slice_get g.spots p)

abbrev pub live_rows : Game → Table → List (ℕ × (PosId × MemId)) → List (TableFault × Bool)
live_rows g t [] = []
live_rows g t (r ∷ rows) = map (λ c. (fault_at InLive r.0 c.0, c.1)) (live_by g t r.1.0.0 r.1.1.0 (slice_get t.mems r.1.1.0)) ++ live_rows g t rows

abbrev pub table_conditions : Game → Table → List (TableFault × Bool)
table_conditions g t =
    (fault_at InMems 0 1, is_header g t) ∷ ranges g t ++ (fault_at InLive 0 2, begins g t) ∷ live_rows g t (enumerate_from 0 t.live)

-- The first condition of a table that fails; a table is good where none does.
abbrev pub table_fault : Game → Table → Option TableFault
table_fault g t = first_failing (table_conditions g t)

abbrev pub IsGoodTable : Game → Table → Type 0
IsGoodTable g t = table_fault g t ≡ None

-- The eight conditions of a strategy, of its row with the number i: at the position p, where s stands, with the state q and the aim e, and what it does.

-- the rows that a row names, and the exit states that it speaks of
abbrev pub named_by : How → List ℕ
named_by (Both skip tried) = skip ∷ tried ∷ []
named_by (Go by row) = row ∷ []
named_by (Into callee backs) = callee ∷ map (λ b. b.1) backs
named_by _ = []

abbrev pub exits_by : How → List ℕ
exits_by (Into callee backs) = map (λ b. b.0) backs
exits_by _ = []

-- 1: the number of states is the game's, each number is in range, and each row that is named is smaller.
abbrev pub is_row : Game → ℕ → Row → Bool
is_row g i r =
    is_position g r.pos && (is_state g r.state && (is_set g r.aim && (list_all (λ n. nat_lt n i) (named_by r.how) && list_all (is_state g) (exits_by r.how))))

-- 2: where it says that the policy is violated, the pair is bad.
abbrev pub is_violated : Game → ℕ → Option Spot → How → Bool
is_violated g q s Bad = bad_in g q s
is_violated g q s _ = true

-- 3: where it says that the function ends, the position is the exit of a function other than `main`, and the state is in the aim.
abbrev pub is_exit : Game → Option Spot → Bool
is_exit g (Some (Exit f)) = not (nat_eq f g.main)
is_exit g _ = false

abbrev pub ends_well : Game → ℕ → ℕ → Option Spot → How → Bool
ends_well g q e s Out = is_exit g s && has e q
ends_well g q e s _ = true

-- the row is there and stands at this pair with this aim
abbrev pub is_row_at : ℕ → ℕ → ℕ → Option Row → Bool
is_row_at p q e None = false
is_row_at p q e (Some r) = nat_eq r.pos p && (nat_eq r.state q && nat_eq r.aim e)

-- the game gives a pair, at which the row stands with this aim
abbrev pub stands_after : Strategy → ℕ → ℕ → Option Config → Bool
stands_after s row e None = false
stands_after s row e (Some c) = is_row_at c.pos c.state e (slice_get s.rows row)

-- 4: where the weaver moves it is its turn, and the rows stand at the pairs of the skip and of the try with the same aim.
abbrev pub weaver_moves : Game → Strategy → ℕ → ℕ → ℕ → Option Spot → How → Bool
weaver_moves g t p q e s (Both skip tried) =
    weavers_in s && (stands_after t skip e (leads_in g p q [] s Skip) && stands_after t tried e (leads_in g p q [] s Try))
weaver_moves g t p q e s _ = true

-- 5: where the environment moves it is its turn at a pair that isn't bad, and the move is the game's and leads to the row's pair with the same aim.
abbrev pub environment_moves : Game → Strategy → ℕ → ℕ → ℕ → Option Spot → How → Bool
environment_moves g t p q e s (Go by row) =
    not (weavers_in s || (is_call_in s || (is_exit_in s || bad_in g q s))) && stands_after t row e (leads_in g p q [] s by)
environment_moves g t p q e s _ = true

-- 6: where a function is called the position is a call, and the callee's row stands at the function's entry with the same state.
abbrev pub enters : Game → ℕ → Option Called → Option Row → Bool
enters g q (Some c) (Some r) = nat_eq r.pos (g.entry c.function) && nat_eq r.state q
enters g q _ _ = false

abbrev pub callee_stands : Game → Strategy → ℕ → Option Called → How → Bool
callee_stands g t q c (Into callee backs) = enters g q c (slice_get t.rows callee)
callee_stands g t q c _ = true

-- 7: the exit states of its backs are exactly the members of the callee's aim, and each back's row stands at the position after the call with the
-- state after the return, and with this row's aim.
abbrev pub is_back : Game → Strategy → ℕ → ℕ → Called → ℕ → ℕ × ℕ → Bool
is_back g t q e c aim b = has aim b.0 && is_row_at c.back (returned g.states (kept_at c.split q) b.0) e (slice_get t.rows b.1)

abbrev pub are_backs : Game → Strategy → ℕ → ℕ → List (ℕ × ℕ) → Option Called → Option Row → Bool
are_backs g t q e backs (Some c) (Some r) =
    list_all (λ x. not (has r.aim x) || is_some (back_of backs x)) (range_with_len 0 g.states.count) && list_all (is_back g t q e c r.aim) backs
are_backs g t q e backs _ _ = false

abbrev pub backs_stand : Game → Strategy → ℕ → ℕ → Option Called → How → Bool
backs_stand g t q e c (Into callee backs) = are_backs g t q e backs c (slice_get t.rows callee)
backs_stand g t q e c _ = true

abbrev pub row_conditions : Game → Strategy → ℕ → Row → Option Spot → List (ℕ × Bool)
row_conditions g t i r s =
    (1, is_row g i r)
    ∷ (2, is_violated g r.state s r.how)
    ∷ (3, ends_well g r.state r.aim s r.how)
    ∷ (4, weaver_moves g t r.pos r.state r.aim s r.how)
    ∷ (5, environment_moves g t r.pos r.state r.aim s r.how)
    ∷ (6, callee_stands g t r.state (call_in s) r.how)
    ∷ (7, backs_stand g t r.state r.aim (call_in s) r.how)
    ∷ []

-- A condition that fails of a row of a strategy.
pub record RowFault : Type 0 where
  pub row : ℕ
  pub condition : ℕ

abbrev pub fault_in : ℕ → ℕ → RowFault
fault_in row condition = record { row = row; condition = condition }

abbrev pub all_rows : Game → Strategy → List (ℕ × Row) → List (RowFault × Bool)
all_rows g t [] = []
all_rows g t (r ∷ rows) = map (λ c. (fault_in r.0 c.0, c.1)) (row_conditions g t r.0 r.1 (slice_get g.spots r.1.pos)) ++ all_rows g t rows

-- 8: some row stands at the start with an empty aim. It is told with the number of rows.
abbrev pub is_start : Game → Row → Bool
is_start g r = nat_eq r.pos (g.entry g.main) && (nat_eq r.state g.states.start && nat_eq r.aim 0)

abbrev pub strategy_conditions : Game → Strategy → List (RowFault × Bool)
strategy_conditions g t =
    (fault_in 0 1, nat_eq t.states g.states.count)
    ∷ all_rows g t (enumerate_from 0 t.rows)
    ++ (fault_in (length t.rows) 8, list_any (is_start g) t.rows) ∷ []

-- The first condition of a strategy that fails; a strategy is good where none does.
abbrev pub strategy_fault : Game → Strategy → Option RowFault
strategy_fault g t = first_failing (strategy_conditions g t)

abbrev pub IsGoodStrategy : Game → Strategy → Type 0
IsGoodStrategy g t = strategy_fault g t ≡ None
