-- The steps of a program once more, as a table of cases: what may be rewritten, and how each front item is passed. A law says that these
-- are the steps of `Frames`. Public source: ISO/IEC 9899:2011, sections 6.8.4 to 6.8.6.
use Rattle.std.specs.Prelude.{◌≡◌, ◌⊎◌, ℕ, List, [], ◌∷◌, ◌++◌, Bool, true, false, Option, Some, None}
use Rattle.cw_syntax.specs.Plans.{Callee, Stm, Plain, Break, Continue, Return, Open, Close, Call, Group, Label, If, While, Do, For, Stms, Plan}
use Rattle.cw_syntax.specs.Frames.{Item, Entry, Todo, Test, After, LoopEnd, End, Frame, items_of, init_if, after_if, frame_of, start_stack, Way, On, Left, Right, Opened, Failed, pass, front}

-- One rewriting at the front of a frame.
pub data Rewrites : Frame → Frame → Type 0 where
  a_block : (ss : Stms) (rest : Frame) → Rewrites (Todo (Group ss) ∷ rest) (items_of ss rest)
  a_while : (at : ℕ) (s : Stm) (rest : Frame) → Rewrites (Todo (While at s) ∷ rest) (Test at true false s ∷ (LoopEnd ∷ rest))
  a_do : (at : ℕ) (s : Stm) (rest : Frame) → Rewrites (Todo (Do at s) ∷ rest) (Todo s ∷ (Test at true false s ∷ (LoopEnd ∷ rest)))
  a_for : (at : ℕ) (init : Option ℕ) (decided stepped : Bool) (s : Stm) (rest : Frame) → Rewrites (Todo (For at init decided stepped s) ∷ rest) (init_if init (Test at decided stepped s ∷ (LoopEnd ∷ rest)))
  a_loop_end : (rest : Frame) → Rewrites (LoopEnd ∷ rest) rest

-- Rewritings, one after the other, for as long as there is one to make.
pub data Settles : Frame → Frame → Type 0 where
  at_rest : (frame : Frame) → ((next : Frame) → Rewrites frame next → ⊥) → Settles frame frame
  rewritten : (frame next last : Frame) → Rewrites frame next → Settles next last → Settles frame last

-- the items hold no loop end
abbrev pub NoLoopEnd : Frame → Type 0
NoLoopEnd [] = Unit {0}
NoLoopEnd (LoopEnd ∷ rest) = ⊥
NoLoopEnd (i ∷ rest) = NoLoopEnd rest

-- the items hold no test and no step of a `for`
abbrev pub NoTurn : Frame → Type 0
NoTurn [] = Unit {0}
NoTurn (Test at decided stepped s ∷ rest) = ⊥
NoTurn (After at ∷ rest) = ⊥
NoTurn (i ∷ rest) = NoTurn rest

-- a frame at a test or at the step of a `for`
abbrev pub IsTurn : Frame → Type 0
IsTurn (Test at decided stepped s ∷ rest) = Unit {0}
IsTurn (After at ∷ rest) = Unit {0}
IsTurn _ = ⊥

-- the ends that these items hold
pub data Ends : Frame → Frame → Type 0 where
  no_items : Ends [] []
  an_end : (f : ℕ) (rest ends : Frame) → Ends rest ends → Ends (End f ∷ rest) (End f ∷ ends)
  an_entry : (f j : ℕ) (rest ends : Frame) → Ends rest ends → Ends (Entry f j ∷ rest) ends
  a_statement : (s : Stm) (rest ends : Frame) → Ends rest ends → Ends (Todo s ∷ rest) ends
  a_test : (at : ℕ) (decided stepped : Bool) (s : Stm) (rest ends : Frame) → Ends rest ends → Ends (Test at decided stepped s ∷ rest) ends
  a_step : (at : ℕ) (rest ends : Frame) → Ends rest ends → Ends (After at ∷ rest) ends
  a_loops_end : (rest ends : Frame) → Ends rest ends → Ends (LoopEnd ∷ rest) ends

-- How a front item is passed within its frame: the item, the way, what stands behind it, and what is to do then, not yet rewritten.
pub data Passes : Item → Way → Frame → Frame → Type 0 where
  entry : (f j : ℕ) (rest : Frame) → Passes (Entry f j) On rest rest
  plain : (at : ℕ) (rest : Frame) → Passes (Todo (Plain at)) On rest rest
  left : (at : ℕ) (s t : Stm) (rest : Frame) → Passes (Todo (If at s t)) Left rest (Todo s ∷ rest)
  right : (at : ℕ) (s t : Stm) (rest : Frame) → Passes (Todo (If at s t)) Right rest (Todo t ∷ rest)
  goes_in : (at : ℕ) (stepped : Bool) (s : Stm) (rest : Frame) → Passes (Test at true stepped s) Left rest (Todo s ∷ after_if stepped at (Test at true stepped s ∷ rest))
  goes_out : (at : ℕ) (stepped : Bool) (s : Stm) (rest : Frame) → Passes (Test at true stepped s) Right rest rest
  goes_on : (at : ℕ) (stepped : Bool) (s : Stm) (rest : Frame) → Passes (Test at false stepped s) On rest (Todo s ∷ after_if stepped at (Test at false stepped s ∷ rest))
  step : (at : ℕ) (rest : Frame) → Passes (After at) On rest rest
  break_out : (at : ℕ) (before behind : Frame) → NoLoopEnd before → Passes (Todo (Break at)) On (before ++ LoopEnd ∷ behind) behind
  continue_at : (at : ℕ) (before behind : Frame) → NoTurn before → IsTurn behind → Passes (Todo (Continue at)) On (before ++ behind) behind
  return_at : (at : ℕ) (rest ends : Frame) → Ends rest ends → Passes (Todo (Return at)) On rest ends
  label : (at mark j l : ℕ) (s : Stm) (rest : Frame) → Passes (Todo (Label at mark j l s)) On rest (Todo s ∷ rest)
  expanded : (at j d : ℕ) (rest : Frame) → Passes (Todo (Open at j d)) Opened rest rest
  failed : (at j d : ℕ) (rest : Frame) → Passes (Todo (Open at j d)) Failed rest rest
  close : (at j d : ℕ) (rest : Frame) → Passes (Todo (Close at j d)) On rest rest

-- One step of a stack of frames that passes this item.
pub data Steps (plan : Plan) : List Frame → Item → Way → List Frame → Type 0 where
  within : (i : Item) (way : Way) (rest raw next : Frame) (frames : List Frame) → Passes i way rest raw → Settles raw next → Steps plan ((i ∷ rest) ∷ frames) i way (next ∷ frames)
  call : (at j : ℕ) (callee : Callee) (rest frame : Frame) (frames : List Frame) → frame_of plan callee.number ≡ Some frame → Steps plan ((Todo (Call at j callee) ∷ rest) ∷ frames) (Todo (Call at j callee)) On (frame ∷ ((Todo (Call at j callee) ∷ rest) ∷ frames))
  returns : (f : ℕ) (is : Frame) (caller : Item) (rest next : Frame) (frames : List Frame) → Settles rest next → Steps plan ((End f ∷ is) ∷ ((caller ∷ rest) ∷ frames)) (End f) On (next ∷ frames)
  over : (f : ℕ) (is : Frame) → Steps plan ((End f ∷ is) ∷ []) (End f) On []

-- The steps of `Frames` are those of the table, and no others.
abbrev pub StepsAreTheTable : Type 0
StepsAreTheTable = (plan : Plan) (stack next : List Frame) (i : Item) (way : Way) → ((front stack ≡ i ∷ []) × (pass plan stack way ≡ Some next) → Steps plan stack i way next) × (Steps plan stack i way next → (front stack ≡ i ∷ []) × (pass plan stack way ≡ Some next))
