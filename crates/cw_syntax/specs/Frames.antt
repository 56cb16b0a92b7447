-- What is still to do, and the steps of a program. Public source: ISO/IEC 9899:2011, sections 6.8 (statements), 6.8.5 (loops),
-- 6.8.6 (jumps), 6.9.1 (functions). Every condition may go either way.
use Rattle.std.specs.Prelude.{◌≡◌, ℕ, List, [], ◌∷◌, Bool, true, false, Option, Some, None, option_map, slice_get}
use Rattle.cw_syntax.specs.Plans.{Callee, Stm, Plain, Break, Continue, Return, Open, Close, Call, Group, Label, If, While, Do, For, Stms, end, then, Routine, Plan}

-- An item of a frame. A test has its loop's place, whether there is a condition, whether a step comes after the body, and the body.
pub data Item : Type 0 where
  Entry : (function seam : ℕ) → Item
  Todo : Stm → Item
  Test : (at : ℕ) → (decided stepped : Bool) → Stm → Item
  -- the step of a `for`
  After : (at : ℕ) → Item
  -- the end of a loop
  LoopEnd : Item
  End : (function : ℕ) → Item

abbrev pub Frame : Type 0
Frame = List Item

abbrev pub items_of : Stms → Frame → Frame
items_of end rest = rest
items_of (then s ss) rest = Todo s ∷ items_of ss rest

-- a new frame of a function
abbrev pub new_frame : ℕ → Routine → Frame
new_frame f r = Entry f r.seam ∷ items_of r.body (End f ∷ [])

abbrev pub frame_of : Plan → ℕ → Option Frame
frame_of plan f = option_map (new_frame f) (slice_get plan.routines f)

abbrev pub init_if : Option ℕ → Frame → Frame
init_if None rest = rest
init_if (Some at) rest = Todo (Plain at) ∷ rest

abbrev pub after_if : Bool → ℕ → Frame → Frame
after_if true at rest = After at ∷ rest
after_if false at rest = rest

-- Rewritings at the front, which are no steps: a block is its statements, a `while` its test and a loop end, a `do` its body, test and loop end,
-- a `for` its init, test and loop end. `next` is `rest` rewritten.
abbrev mutual
  pub expanded : Stm → Frame → Frame → Frame
  expanded (Plain at) rest next = Todo (Plain at) ∷ rest
  expanded (Break at) rest next = Todo (Break at) ∷ rest
  expanded (Continue at) rest next = Todo (Continue at) ∷ rest
  expanded (Return at) rest next = Todo (Return at) ∷ rest
  expanded (Open at j d) rest next = Todo (Open at j d) ∷ rest
  expanded (Close at j d) rest next = Todo (Close at j d) ∷ rest
  expanded (Call at j callee) rest next = Todo (Call at j callee) ∷ rest
  expanded (Group ss) rest next = expanded_all ss rest next
  expanded (Label at mark j l s) rest next = Todo (Label at mark j l s) ∷ rest
  expanded (If at s t) rest next = Todo (If at s t) ∷ rest
  expanded (While at s) rest next = Test at true false s ∷ (LoopEnd ∷ rest)
  expanded (Do at s) rest next = expanded s (Test at true false s ∷ (LoopEnd ∷ rest)) (Test at true false s ∷ (LoopEnd ∷ rest))
  expanded (For at init decided stepped s) rest next = init_if init (Test at decided stepped s ∷ (LoopEnd ∷ rest))

  pub expanded_all : Stms → Frame → Frame → Frame
  expanded_all end rest next = next
  expanded_all (then s ss) rest next = expanded s (items_of ss rest) (expanded_all ss rest next)

-- and a loop end is dropped
abbrev pub settle : Frame → Frame
settle [] = []
settle (Entry f j ∷ rest) = Entry f j ∷ rest
settle (Todo s ∷ rest) = expanded s rest (settle rest)
settle (Test at decided stepped s ∷ rest) = Test at decided stepped s ∷ rest
settle (After at ∷ rest) = After at ∷ rest
settle (LoopEnd ∷ rest) = settle rest
settle (End f ∷ rest) = End f ∷ rest

-- nothing is left to rewrite at the front
abbrev pub settled : Frame → Bool
settled (Todo (Group ss) ∷ is) = false
settled (Todo (While at s) ∷ is) = false
settled (Todo (Do at s) ∷ is) = false
settled (Todo (For at init decided stepped s) ∷ is) = false
settled (LoopEnd ∷ is) = false
settled _ = true

-- `break`: all up to and with the first loop end is dropped
abbrev pub broken : Frame → Option Frame
broken [] = None
broken (LoopEnd ∷ rest) = Some rest
broken (i ∷ rest) = broken rest

-- `continue`: all before the first step of a `for`, or test, is dropped
abbrev pub continued : Frame → Option Frame
continued [] = None
continued (Test at decided stepped s ∷ rest) = Some (Test at decided stepped s ∷ rest)
continued (After at ∷ rest) = Some (After at ∷ rest)
continued (i ∷ rest) = continued rest

-- `return`: all but the end is dropped
abbrev pub ended : Frame → Frame
ended [] = []
ended (End f ∷ rest) = End f ∷ ended rest
ended (i ∷ rest) = ended rest

-- the ways on from an item
pub data Way : Type 0 where
  On : Way
  Left : Way
  Right : Way
  Opened : Way
  Failed : Way

-- what is to do after an item of the top frame, where it may be passed this way
abbrev pub after : Item → Way → Frame → Option Frame
after (Entry f j) On rest = Some rest
after (Todo (Plain at)) On rest = Some rest
after (Todo (Break at)) On rest = broken rest
after (Todo (Continue at)) On rest = continued rest
after (Todo (Return at)) On rest = Some (ended rest)
after (Todo (Open at j d)) Opened rest = Some rest
after (Todo (Open at j d)) Failed rest = Some rest
after (Todo (Close at j d)) On rest = Some rest
after (Todo (Label at mark j l s)) On rest = Some (Todo s ∷ rest)
after (Todo (If at s t)) Left rest = Some (Todo s ∷ rest)
after (Todo (If at s t)) Right rest = Some (Todo t ∷ rest)
after (Test at true stepped s) Left rest = Some (Todo s ∷ after_if stepped at (Test at true stepped s ∷ rest))
after (Test at true stepped s) Right rest = Some rest
after (Test at false stepped s) On rest = Some (Todo s ∷ after_if stepped at (Test at false stepped s ∷ rest))
after (After at) On rest = Some rest
after _ _ _ = None

-- At the end of a frame it is popped, and the call at the front of the frame below is dropped. After the end of the last frame the program is over.
abbrev pub popped : List Frame → Option (List Frame)
popped [] = Some []
popped ([] ∷ frames) = None
popped ((call ∷ rest) ∷ frames) = Some (settle rest ∷ frames)

-- at a call of a defined function its frame is pushed, and the call stays at the front of its own frame
abbrev pub pushed : Plan → Callee → List Frame → Option (List Frame)
pushed plan callee stack = option_map (λ frame. frame ∷ stack) (frame_of plan callee.number)

-- One step of a stack of frames, the top first, all of them rewritten.
abbrev pub pass : Plan → List Frame → Way → Option (List Frame)
pass plan [] way = None
pass plan ([] ∷ frames) way = None
pass plan ((Todo (Call at j callee) ∷ is) ∷ frames) On = pushed plan callee ((Todo (Call at j callee) ∷ is) ∷ frames)
pass plan ((End f ∷ is) ∷ frames) On = popped frames
pass plan ((i ∷ is) ∷ frames) way = option_map (λ next. settle next ∷ frames) (after i way is)

-- the item that a step passes
abbrev pub front : List Frame → List Item
front ((i ∷ is) ∷ frames) = i ∷ []
front _ = []

-- these items are passed, in order, by some steps from this stack
abbrev pub PathFrom : Plan → List Frame → List Item → Type 0
PathFrom plan stack [] = Unit {0}
PathFrom plan stack (i ∷ is) = (way : Way) × (next : List Frame) × (front stack ≡ i ∷ []) × (pass plan stack way ≡ Some next) × PathFrom plan next is

abbrev pub stack_of : Option Frame → List Frame
stack_of None = []
stack_of (Some frame) = frame ∷ []

-- a program starts with one frame, that of `main`
abbrev pub start_stack : Plan → List Frame
start_stack plan = stack_of (frame_of plan plan.main)

abbrev pub Path : Plan → List Item → Type 0
Path plan items = PathFrom plan (start_stack plan) items
