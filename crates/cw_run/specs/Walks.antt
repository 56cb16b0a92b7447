-- Working definitions: a run over the positions and states of the game, and over the rows of the table.
use Rattle.std.specs.Prelude.{◌≡◌, ℕ, ◌+◌, List, [], ◌∷◌, ◌++◌, map, reverse, count_by, Bool, true, false, cond, not, nat_eq, Option, Some, None, option_map, option_and_then, is_some, slice_get}
use Rattle.cw_core.specs.declared.ids.MemId.{MemId}
use Rattle.cw_rights.specs.declared.capabilities.Caps.{Caps}
use Rattle.cw_certs.specs.declared.moves.Move.{Move}
use Rattle.cw_certs.specs.declared.moves.Move.TheVariants.{Grant, Refuse, On, Left, Right, Opened, Failed}
use Rattle.cw_certs.specs.declared.rows.TryRow.{TryRow}
use Rattle.cw_certs.specs.Tables.{Table, try_at, after_at, open_at, into_at, back_at, state_of}
use Rattle.cw_model.specs.Runs.{mem_in, refused_with, by_success}
use Rattle.cw_game.specs.declared.spots.Spot.{Spot}
use Rattle.cw_game.specs.declared.spots.Spot.TheVariants.{Visit, Asked, Step, Branch, Label, Open, Close, Call, SplitCall, Exit}
use Rattle.cw_game.specs.Games.{Game, Ret, Config, at_pair, returned, resumed}
use Rattle.cw_game.specs.Games.{weavers_in}
use Rattle.cw_game.specs.Pairs.{Called, kept_at}
use Rattle.cw_product.specs.Moves.{IsPosition, IsState, next_at}
use Rattle.cw_trace.specs.Lines.{stop_line}
use Rattle.cw_trace.specs.Traces.{Names}
use Rattle.cw_trace.specs.Told.{lines_at, label_at}
use Rattle.cw_run.specs.declared.walk.Here.{Here as HereData}
use Rattle.cw_run.specs.declared.walk.CallAt.{CallAt}
use Rattle.cw_run.specs.declared.run.Landing.{Landing as LandingData}
use Rattle.cw_run.specs.declared.run.Landing.TheVariants as landing_data
use Rattle.cw_run.specs.declared.walk.Wait.{Wait as WaitData}
use Rattle.cw_run.specs.declared.walk.Next.{Next as NextData}
use Rattle.cw_run.specs.declared.walk.Next.TheVariants as next_data

-- Where the top frame stands: its position, the state, its memory.
pub record Here : Type 0 where
  pub pos : ℕ
  pub state : ℕ
  pub mem : ℕ

-- A call that waits for the end of the function: its seam and mode, the position to which it returns, and the state and the memory at the call.
pub record Wait : Type 0 where
  pub seam : ℕ
  pub split : Bool
  pub back : ℕ
  pub state : ℕ
  pub mem : ℕ

-- what the program's data stand for
abbrev pub here_of : HereData → Here
here_of h = record { pos = h.pos.0; state = h.state.0; mem = h.mem.0 }

abbrev pub wait_of : WaitData → Wait
wait_of w = record { seam = w.seam.0; split = w.split; back = w.back.0; state = w.state.0; mem = w.mem.0 }

abbrev pub ret_of : Wait → Ret
ret_of w = record { back = w.back; kept = kept_at w.split w.state }

abbrev pub config_of : Here → List Wait → Config
config_of h waits = at_pair h.pos h.state (map ret_of waits)

abbrev pub mems_of : Here → List Wait → List ℕ
mems_of h waits = h.mem ∷ map (λ w. w.mem) waits

abbrev pub landing : ℕ × ℕ → ℕ → Here
landing pair m = record { pos = pair.0; state = pair.1; mem = m }

-- the memory after a move within a function, where the table has it
abbrev pub mem_after : Table → ℕ → Spot → Move → Option ℕ
mem_after t m (Asked j i a) Grant = option_and_then (λ r. option_and_then (mem_in t) r.granted) (try_at t j i m)
mem_after t m (Asked j i a) Refuse = refused_with t (try_at t j i m)
mem_after t m (Step n) by = Some m
mem_after t m (Branch l r) by = Some m
mem_after t m (Label j l n) by = option_and_then (λ r. mem_in t r.after) (after_at t.ats j m)
mem_after t m (Open j d n) by = option_and_then (λ r. mem_in t (by_success by r.opened r.failed)) (open_at t j m)
mem_after t m (Close j d n) by = option_and_then (λ r. mem_in t r.after) (after_at t.closed j m)
mem_after t m _ by = None

-- where a move leads within a function, if the game and the table have it
abbrev pub within : Game → Table → Here → Spot → Move → Option Here
within g t h s by = option_and_then (λ pair. option_map (landing pair) (mem_after t h.mem s by)) (next_at g h.pos h.state by)

-- What a move leads to: on in the same frame, into a function, back to its caller, the end of the program; and after a refusal that a stop can
-- answer, on or the stop.
pub data Next : Type 0 where
  To : Here → Next
  Into : Here → Wait → Next
  Back : Here → Next
  Over : Next
  Resumed : Here → Next
  Stopped : (seam : ℕ) → Next

abbrev pub called : Game → Table → Here → (seam function back : ℕ) → Bool → Move → Option Next
called g t h seam f back split On =
    option_map (λ m. Into (landing (g.entry f, h.state) m) (record { seam = seam; split = split; back = back; state = h.state; mem = h.mem }))
    (option_and_then (λ r. mem_in t r.callee) (into_at t seam split h.mem))
called g t h seam f back split _ = None

-- the innermost call that waits
abbrev pub first_of : List Wait → Option Wait
first_of [] = None
first_of (w ∷ waits) = Some w

abbrev pub returning : Game → Table → Here → Option Wait → Option Next
returning g t h None = Some Over
returning g t h (Some w) =
    option_and_then (λ exit. option_map (λ m. Back (landing (w.back, returned g.states (kept_at w.split w.state) h.state) m))
    (option_and_then (λ r. mem_in t r.after) (back_at t w.seam w.split w.mem exit)))
    (state_of t h.mem)

abbrev pub ended : Game → Table → Here → List Wait → Move → Option Next
ended g t h waits On = returning g t h (first_of waits)
ended g t h waits _ = None

-- after a refusal that a stop can answer: the row has a memory with which to go on, or the weaver stops
abbrev pub going_on : Table → (seam : ℕ) → ℕ × ℕ → Option MemId → Option Next
going_on t seam pair None = Some (Stopped seam)
going_on t seam pair (Some m) = option_map (λ n. Resumed (landing pair n)) (mem_in t m)

abbrev pub refusing : Table → (seam : ℕ) → ℕ × ℕ → Option TryRow → Option Next
refusing t seam pair row = option_and_then (λ r. going_on t seam pair r.refused) row

abbrev pub asked : Game → Table → Here → Spot → (seam stage : ℕ) → Move → Option (ℕ × ℕ) → Option Next
asked g t h s seam stage Refuse (Some pair) = refusing t seam pair (try_at t seam stage h.mem)
asked g t h s seam stage by _ = option_map To (within g t h s by)

-- Where a move of the environment leads.
abbrev pub next_of : Game → Table → Here → List Wait → Spot → Move → Option Next
next_of g t h waits (Call j f n) by = called g t h j f n false by
next_of g t h waits (SplitCall j f n) by = called g t h j f n true by
next_of g t h waits (Exit f) by = ended g t h waits by
next_of g t h waits (Asked j i a) by = asked g t h (Asked j i a) j i by (resumed g h.pos h.state)
next_of g t h waits s by = option_map To (within g t h s by)

-- the stop after a move
abbrev pub stop_lines : (List ℕ → List ℕ) → Next → List ℕ
stop_lines own (Stopped seam) = own (stop_line seam)
stop_lines own _ = []

-- From a position the weaver comes to another by its own moves: it skips what has no try row, and tries what has one.
pub data Rests (g : Game) (t : Table) (m : ℕ) : ℕ → ℕ → Type 0 where
  stays : (p : ℕ) → weavers_in (slice_get g.spots p) ≡ false → Rests g t m p p
  tries : (p j i : ℕ) (a : _) → slice_get g.spots p ≡ Some (Visit j i a) → is_some (try_at t j i m) ≡ true → Rests g t m p (p + 1)
  skips : (p n j i : ℕ) (a : _) → slice_get g.spots p ≡ Some (Visit j i a) → is_some (try_at t j i m) ≡ false → Rests g t m (p + 2) n → Rests g t m p n

-- the same landing at another position
abbrev pub at_pos : ℕ → Here → Here
at_pos p h = record { pos = p; state = h.state; mem = h.mem }

-- the landing behind a step, and behind a condition
abbrev pub stepped_to : ℕ → Here → Move → Option Here
stepped_to n h On = Some (at_pos n h)
stepped_to n h _ = None

abbrev pub branched_to : (left right : ℕ) → Here → Move → Option Here
branched_to l r h Left = Some (at_pos l h)
branched_to l r h Right = Some (at_pos r h)
branched_to l r h _ = None

abbrev pub to_if : Option Here → Option Next
to_if to = option_map To to

-- where the run goes on after a move: the new landing, and the calls that wait
abbrev pub landing_of : Next → Option Here
landing_of (To h) = Some h
landing_of (Into h w) = Some h
landing_of (Back h) = Some h
landing_of Over = None
landing_of (Resumed h) = Some h
landing_of (Stopped seam) = None

abbrev pub without_first : List Wait → List Wait
without_first [] = []
without_first (w ∷ waits) = waits

abbrev pub waits_after : Next → List Wait → List Wait
waits_after (Into h w) waits = w ∷ waits
waits_after (Back h) waits = without_first waits
waits_after _ waits = waits

-- the same by the data of the program
abbrev pub next_is : NextData → Next
next_is (next_data.To h) = To (here_of h)
next_is (next_data.Into h w) = Into (here_of h) (wait_of w)
next_is (next_data.Back h) = Back (here_of h)
next_is next_data.Over = Over
next_is (next_data.Resumed h) = Resumed (here_of h)
next_is (next_data.Stopped seam) = Stopped seam.0

-- the memory after an answer
abbrev pub asked_memory : Table → (m seam stage : ℕ) → Move → Option ℕ
asked_memory t m seam stage Grant = option_and_then (λ r. option_and_then (mem_in t) r.granted) (try_at t seam stage m)
asked_memory t m seam stage Refuse = refused_with t (try_at t seam stage m)
asked_memory t m seam stage _ = None

-- how many calls begin to wait: none, or one; and how many may by an entry, and by the entries of a tape
abbrev pub entered : Next → ℕ
entered (Into h w) = 1
entered _ = 0

abbrev pub is_on : Move → Bool
is_on On = true
is_on _ = false

abbrev pub enters : Move → ℕ
enters by = cond (is_on by) 1 0

abbrev pub entries : List Move → ℕ
entries tape = count_by is_on tape

-- positions and states of the game
abbrev pub IsHere : Game → Here → Type 0
IsHere g h = IsPosition g h.pos × IsState g h.state

abbrev pub IsWait : Game → Wait → Type 0
IsWait g w = IsPosition g w.back × IsState g w.state

abbrev pub IsNextIn : Game → Next → Type 0
IsNextIn g (To h) = IsHere g h
IsNextIn g (Into h w) = IsHere g h × IsWait g w
IsNextIn g (Back h) = IsHere g h
IsNextIn g Over = Unit {0}
IsNextIn g (Resumed h) = IsHere g h
IsNextIn g (Stopped seam) = Unit {0}

-- a call as the definition has it
abbrev pub called_of : CallAt → Called
called_of c = record { seam = c.seam.0; function = c.function; back = c.back.0; split = c.split }

-- the calls that wait, the innermost first: the program has it last
abbrev pub innermost : List WaitData → List Wait
innermost waits = reverse (map wait_of waits)

-- whether a move has a line that is made where this stands
abbrev pub is_answer : Move → Bool
is_answer Grant = true
is_answer Refuse = true
is_answer _ = false

abbrev pub is_success : Move → Bool
is_success Opened = true
is_success Failed = true
is_success _ = false

abbrev pub has_line : (main : ℕ) → Spot → Move → Bool
has_line main (Asked j i a) by = is_answer by
has_line main (Open j d n) by = is_success by
has_line main (Close j d n) by = true
has_line main (Call j f n) by = true
has_line main (SplitCall j f n) by = true
has_line main (Exit f) by = not (nat_eq f main)
has_line main _ by = false

abbrev pub is_label : Spot → Bool
is_label (Label j l n) = true
is_label _ = false

-- The weaver comes to rest, and the label that is reached there is told, as `own` has it.
pub record Arrives (names : Names) (g : Game) (t : Table) (held : ℕ → Caps) (own : List ℕ → List ℕ) (to here : Here) (old new : List ℕ) : Type 0 where
  pub rests : Rests g t to.mem to.pos here.pos
  pub same : here ≡ at_pos here.pos to
  pub told : new ≡ old ++ own (label_at names g.policy (held to.state) (slice_get g.spots here.pos))

-- Where the run is: at a position with a state and a memory, or over.
abbrev pub landing_in : LandingData → Option Here
landing_in (landing_data.At h) = Some (here_of h)
landing_in landing_data.Over = None

-- what was told, and the stop after it
abbrev pub with_stop : (List ℕ → List ℕ) → List ℕ → Next → List ℕ
with_stop own old (Stopped seam) = old ++ own (stop_line seam)
with_stop own old _ = old

-- The run comes to rest after this, or is over, and what is told on the way.
abbrev pub LandsAt : Names → Game → Table → (ℕ → Caps) → (List ℕ → List ℕ) → Next → Option Here → Option Here → List ℕ → List ℕ → Type 0
LandsAt names g t held own n (Some to) (Some here) old new = Arrives names g t held own to here (with_stop own old n) new
LandsAt names g t held own n None None old new = new ≡ with_stop own old n
LandsAt names g t held own n _ _ old new = ⊥

-- What the run is after a move that leads somewhere.
pub record Goes (names : Names) (g : Game) (t : Table) (held : ℕ → Caps) (own : List ℕ → List ℕ) (n : Next) (waits waits2 : List Wait) (landing : Option Here) (old new : List ℕ) : Type 0 where
  pub waiting : waits2 ≡ waits_after n waits
  pub lands : LandsAt names g t held own n (landing_of n) landing old new

-- where a move leads from here
abbrev pub next_here : Game → Table → Here → List Wait → Move → Option Next
next_here g t h waits by = option_and_then (λ s. next_of g t h waits s by) (slice_get g.spots h.pos)

-- An answer of the environment at a landing: it is a move there, and the run goes on by it; or it is none.
abbrev pub Answered : Names → Game → Table → (ℕ → Caps) → (List ℕ → List ℕ) → Here → Move → Option LandingData → List Wait → List Wait → List ℕ → List ℕ → Type 0
Answered names g t held own h by None waits waits2 old new = (next_here g t h waits by ≡ None) × (new ≡ old)
Answered names g t held own h by (Some landing) waits waits2 old new =
    (n : Next) × (next_here g t h waits by ≡ Some n)
    × Goes names g t held own n waits waits2 (landing_in landing) (old ++ own (lines_at names g.policy g.main (slice_get g.spots h.pos) by)) new

abbrev pub IsLanding : Game → Option Here → Type 0
IsLanding g None = Unit {0}
IsLanding g (Some h) = IsHere g h

-- where a run starts: at the entry of `main`, with the start's state and memory
abbrev pub start_here : Game → Table → Here
start_here g t = landing (g.entry g.main, g.states.start) t.start.0
