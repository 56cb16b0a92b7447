-- Woven programs: a program with a table, its runs, and what it means that the table is sound. Public source: the instrumented
-- programs of Harris, Jha, Reps, Anderson and Watson (2013).
use Rattle.std.specs.Prelude.{◌≡◌, ℕ, ◌+◌, ◌≤◌, ◌⊎◌, List, [], ◌∷◌, ◌++◌, Bool, true, false, cond, not, Option, Some, None, option_map, option_and_then, is_some, slice_get}
use Rattle.cw_core.specs.declared.ids.MemId.{MemId}
use Rattle.cw_rights.specs.declared.capabilities.Caps.{Caps}
use Rattle.cw_certs.specs.declared.moves.Move.{Move}
use Rattle.cw_certs.specs.declared.moves.Move.TheVariants.{Skip, Try, Grant, Refuse, Opened, Stop}
use Rattle.cw_certs.specs.declared.rows.TryRow.{TryRow}
use Rattle.cw_certs.specs.Tables.{Table, try_at, after_at, open_at, into_at, back_at, state_of}
use Rattle.cw_syntax.specs.Plans.{Open, Close, Call, Label}
use Rattle.cw_syntax.specs.Frames.{Item, Todo, End, Frame, front, Path}
use Rattle.cw_model.specs.Boards.{Problem, Phase, Visit, Asked, Refused, Free, FreeSplit, Board, seam_in, start_board, can_stop, Violates, Moves, IsWeavers, IsEnvironments, Forced}

-- the try row of the seam at the front
abbrev pub try_in : Table → Option ℕ → ℕ → ℕ → Option TryRow
try_in t None stage m = None
try_in t (Some seam) stage m = try_at t seam stage m

abbrev pub front_seam : List Frame → Option ℕ
front_seam [] = None
front_seam (frame ∷ frames) = seam_in frame

-- the memory of this number, where the table's list has it
abbrev pub mem_in : Table → MemId → Option ℕ
mem_in t m = option_map (λ r. m.0) (slice_get t.mems m.0)

-- the top frame's memory made anew
abbrev pub top_by : (ℕ → Option ℕ) → List ℕ → Option (List ℕ)
top_by f [] = None
top_by f (m ∷ ms) = option_map (λ new. new ∷ ms) (f m)

-- the memory stays where a row stands, or where none does
abbrev pub stays_where : Bool → ℕ → Option ℕ
stays_where true m = Some m
stays_where false m = None

abbrev pub stays_unless : Bool → ℕ → Option ℕ
stays_unless true m = None
stays_unless false m = Some m

-- the memory after a refusal that the weaver goes on from; a row without one stops where it can
abbrev pub refused_with : Table → Option TryRow → Option ℕ
refused_with t row = option_and_then (λ r. option_and_then (mem_in t) r.refused) row

abbrev pub stops : Option TryRow → Bool
stops None = false
stops (Some r) = not (is_some r.refused)

-- an open takes the memory of its row by its success
abbrev pub by_success : Move → MemId → MemId → MemId
by_success Opened opened failed = opened
by_success _ opened failed = failed

-- a call gives the new frame its own memory
abbrev pub called_with : Table → Bool → ℕ → List ℕ → Option (List ℕ)
called_with t split seam [] = None
called_with t split seam (m ∷ ms) = option_map (λ callee. callee ∷ (m ∷ ms)) (option_and_then (λ r. mem_in t r.callee) (into_at t seam split m))

-- the memory after the return to the call at the front of a frame, by the state of the memory at the end of the frame that it called
abbrev pub returned_with : Table → Bool → Frame → ℕ → Option ℕ → Option ℕ
returned_with t split (Todo (Call at j callee) ∷ rest) m (Some exit) = option_and_then (λ r. mem_in t r.after) (back_at t j split m exit)
returned_with t split _ m _ = None

abbrev pub return_memories : Table → Bool → List Frame → List ℕ → Option (List ℕ)
return_memories t split [] ms = Some ms
return_memories t split (frame ∷ frames) (m ∷ (n ∷ ms)) = option_map (λ after. after ∷ ms) (returned_with t split frame n (state_of t m))
return_memories t split (frame ∷ frames) _ = None

abbrev pub was_split : List (Option Caps) → Bool
was_split [] = false
was_split (k ∷ kept) = is_some k

-- the memories, the top frame's first, after a step of the program
abbrev pub step_memories : Table → Bool → Move → List Frame → List (Option Caps) → List ℕ → Option (List ℕ)
step_memories t split by ((Todo (Label at mark j l s) ∷ is) ∷ frames) kept ms = top_by (λ m. option_and_then (λ r. mem_in t r.after) (after_at t.ats j m)) ms
step_memories t split by ((Todo (Open at j d) ∷ is) ∷ frames) kept ms = top_by (λ m. option_and_then (λ r. mem_in t (by_success by r.opened r.failed)) (open_at t j m)) ms
step_memories t split by ((Todo (Close at j d) ∷ is) ∷ frames) kept ms = top_by (λ m. option_and_then (λ r. mem_in t r.after) (after_at t.closed j m)) ms
step_memories t split by ((Todo (Call at j callee) ∷ is) ∷ frames) kept ms = called_with t split j ms
step_memories t split by ((End f ∷ is) ∷ frames) kept ms = return_memories t (was_split kept) frames ms
step_memories t split by _ kept ms = Some ms

-- the try row of this board, stage and memory
abbrev pub try_of : Table → Board → ℕ → ℕ → Option TryRow
try_of t b stage m = try_in t (front_seam b.stack) stage m

-- The memories after a move, where the table makes it or has them. In a visit the weaver tries where there is a try row, and skips otherwise.
-- After a refusal that it can stop at, they stay; it stops then where the row has no memory for a refusal, and goes on with it otherwise.
abbrev pub memories : Problem → Table → Board → List ℕ → Phase → Move → Option (List ℕ)
memories p t b ms (Visit stage a later) Skip = top_by (λ m. stays_unless (is_some (try_of t b stage m)) m) ms
memories p t b ms (Visit stage a later) Try = top_by (λ m. stays_where (is_some (try_of t b stage m)) m) ms
memories p t b ms (Asked stage a later) Grant = top_by (λ m. option_and_then (λ r. option_and_then (mem_in t) r.granted) (try_of t b stage m)) ms
memories p t b ms (Asked stage a later) Refuse = cond (can_stop p.policy b.caps a) (Some ms) (top_by (λ m. refused_with t (try_of t b stage m)) ms)
memories p t b ms (Refused stage a later) Skip = top_by (λ m. refused_with t (try_of t b stage m)) ms
memories p t b ms (Refused stage a later) Stop = top_by (λ m. stays_where (stops (try_of t b stage m)) m) ms
memories p t b ms Free m = step_memories t false m b.stack b.kept ms
memories p t b ms FreeSplit m = step_memories t true m b.stack b.kept ms
memories p t b ms _ _ = None

-- A board of a woven run, with a memory for each frame.
pub record State : Type 0 where
  pub board : Board
  pub mems : List ℕ

abbrev pub start_state : Problem → Table → State
start_state p t = record { board = start_board p; mems = t.start.0 ∷ [] }

abbrev pub WovenStep : Problem → Table → State → Move → State → Type 0
WovenStep p t s m next = Moves p s.board m next.board × (memories p t s.board s.mems s.board.phase m ≡ Some next.mems)

-- A woven run goes on from a state by these states, one after the other.
abbrev pub Goes : Problem → Table → State → List State → Type 0
Goes p t s [] = Unit {0}
Goes p t s (next ∷ later) = ((m : Move) × WovenStep p t s m next) × Goes p t next later

-- A woven run, as the list of its states after the start.
abbrev pub WovenRun : Problem → Table → List State → Type 0
WovenRun p t run = Goes p t (start_state p t) run

abbrev pub last : State → List State → State
last s [] = s
last s (next ∷ later) = last next later

-- the state that a woven run comes to
abbrev pub reached : Problem → Table → List State → State
reached p t run = last (start_state p t) run

-- the item that a step of the program passes
abbrev pub passed_in : Phase → List Frame → List Item
passed_in Free stack = front stack
passed_in FreeSplit stack = front stack
passed_in _ stack = []

abbrev pub passed : State → List Item
passed s = passed_in s.board.phase s.board.stack

-- The erased path: the items that are passed, in order.
abbrev pub erased : State → List State → List Item
erased s [] = []
erased s (next ∷ later) = passed s ++ erased next later

abbrev pub is_asked : Phase → ℕ
is_asked (Asked stage a later) = 1
is_asked _ = 0

-- how many tries these states come from
abbrev pub tries : List State → ℕ
tries [] = 0
tries (s ∷ later) = is_asked s.board.phase + tries later

-- no step from a state by these states is a stop
abbrev pub NeverStops : Problem → State → List State → Type 0
NeverStops p s [] = Unit {0}
NeverStops p s (next ∷ later) = (Moves p s.board Stop next.board → ⊥) × NeverStops p next later

-- the run has come to its last state by a refusal, at a board where the grant was a move too
abbrev pub WasRefused : Problem → Table → List State → Type 0
WasRefused p t run = (before : List State) × (s : State) × (granted : Board) × (run ≡ before ++ (s ∷ []))
    × WovenStep p t (reached p t before) Refuse s × Moves p (reached p t before).board Grant granted

-- What it means that a table is sound.
pub record Sound (p : Problem) (t : Table) : Type 0 where
  -- no board of any woven run, of any length, violates
  pub meets : (run : List State) → WovenRun p t run → Violates p (reached p t run).board → ⊥
  -- at the environment's turn no move is left unanswered
  pub answers : (run : List State) (m : Move) (next : Board) → WovenRun p t run → IsEnvironments (reached p t run).board
      → Moves p (reached p t run).board m next → (ms : List ℕ) × WovenStep p t (reached p t run) m (record { board = next; mems = ms })
  -- at the weaver's turn the table has a move
  pub chooses : (run : List State) → WovenRun p t run → IsWeavers (reached p t run).board
      → (m : Move) × (next : State) × WovenStep p t (reached p t run) m next
  -- no path is added
  pub adds_none : (run : List State) → WovenRun p t run → Path p.plan (erased (start_state p t) run)
  -- and none is lost, by runs without a stop
  pub loses_none : (items : List Item) → Path p.plan items
      → (run : List State) × WovenRun p t run × NeverStops p (start_state p t) run × (erased (start_state p t) run ≡ items)
  -- between two steps of the program there are at most 14 tries
  pub few_tries : (run later : List State) → WovenRun p t run → Goes p t (reached p t run) later
      → erased (reached p t run) later ≡ [] → tries later ≤ 14
  -- each stop comes right after a refusal of what could have been granted
  pub stops_after_refusal : (run : List State) (stopped : State) → WovenRun p t run
      → WovenStep p t (reached p t run) Stop stopped → WasRefused p t run

-- A primitive is tried, and the program stopped, only where skipping is lost: at each board of each woven run at which the table tries or
-- stops, the board after a skip is forced.
abbrev pub Lazy : Problem → Table → Type 0
Lazy p t = (run : List State) (m : Move) (next : State) (skipped : Board) → WovenRun p t run → (m ≡ Try) ⊎ (m ≡ Stop)
    → WovenStep p t (reached p t run) m next → Moves p (reached p t run).board Skip skipped → (n : ℕ) × Forced p n skipped
