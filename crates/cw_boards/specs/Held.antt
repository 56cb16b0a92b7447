-- Boards as the program holds them, and the boards that they stand for. `checked` and `policy` are the program's own.
use Rattle.std.specs.Prelude.{◌≡◌, ◌↔◌, ◌+◌, ◌<◌, IsTrue, ℕ, List, [], ◌∷◌, Option, Some, None, map, drop, codes}
use Rattle.std.specs.declared.collections.VecDeque.{VecDeque}
use Rattle.std.specs.declared.alloc.Global.{Global}
use Rattle.cw_rights.specs.declared.capabilities.Primitive.{Primitive}
use Rattle.cw_rights.specs.declared.policy.Policy.{Policy}
use Rattle.cw_rights.specs.Policies.{PlainPolicy, policy_of}
use Rattle.cw_certs.specs.declared.moves.Move.{Move}
use Rattle.cw_syntax.specs.declared.checked.Checked.{Checked}
use Rattle.cw_syntax.specs.Names.{number_or_other}
use Rattle.cw_syntax.specs.Trees.{definition_of, file_of}
use Rattle.cw_syntax.specs.declared.program.Function.{Function}
use Rattle.cw_syntax.specs.Plans.{Plain, Group, end, Scene, numbered, seams_all, routines_from, Plan}
use Rattle.cw_syntax.specs.Frames.{Item, Entry, Todo, Test, After as AfterItem, LoopEnd, End, Frame}
use Rattle.cw_resolve.specs.Scenes.{scene_in, stm_in, stms_in}
use Rattle.cw_model.specs.Boards.{Problem, problem_of, Phase, Asked, Refused, FreeSplit, Over, Board, primitives_in, onward, Violates, Moves}
use Rattle.cw_boards.specs.Numbered.{most_seams, StackBelow}
use Rattle.cw_boards.specs.declared.items.Item.{Item as Held}
use Rattle.cw_boards.specs.declared.items.Item.TheVariants.{Entry as HeldEntry, Todo as HeldTodo, Nothing as HeldNothing, Init as HeldInit, Test as HeldTest, After as HeldAfter}
use Rattle.cw_boards.specs.declared.items.Item.TheVariants.{LoopEnd as HeldLoopEnd, End as HeldEnd}
use Rattle.cw_boards.specs.declared.choices.Phase.{Phase as HeldPhase}
use Rattle.cw_boards.specs.declared.choices.Phase.TheVariants.{Visit as HeldVisit, Asked as HeldAsked, Refused as HeldRefused, Split as HeldSplit, Over as HeldOver}
use Rattle.cw_boards.specs.declared.boards.State.{State}
use Rattle.cw_boards.specs.declared.boards.Board.{Board as HeldBoard}

-- the names of a source under a policy
abbrev pub scene : Checked → Policy → Scene
scene checked policy = scene_in checked (policy_of policy)

-- the program of a source under a policy
abbrev pub problem : Checked → Policy → Problem
problem checked policy = problem_of (policy_of policy) checked.source.now (file_of checked.program)

-- the plan of these functions, by the names of a scene
abbrev pub plan_by : Scene → List Function → Plan
plan_by s fs = record { routines = routines_from s 0 (map definition_of fs); main = number_or_other s.functions (codes "main") }

-- a statement that is still to do is held with the number of its first seam
abbrev pub item_of : Scene → Held → Item
item_of s (HeldEntry f j) = Entry f j
item_of s (HeldTodo statement j) = Todo (numbered (stm_in s statement.now) j)
item_of s HeldNothing = Todo (Group end)
item_of s (HeldInit at) = Todo (Plain at)
item_of s (HeldTest at decided stepped body j) = Test at decided stepped (numbered (stm_in s body.now) j)
item_of s (HeldAfter at) = AfterItem at
item_of s HeldLoopEnd = LoopEnd
item_of s (HeldEnd f) = End f

abbrev pub frame_in : Scene → VecDeque Held Global → Frame
frame_in s frame = map (item_of s) frame.items

abbrev pub stack_in : Scene → VecDeque (VecDeque Held Global) Global → List Frame
stack_in s stack = map (frame_in s) stack.items

-- the primitives that are passed at the front of a stack
abbrev pub primitives_at : PlainPolicy → List Frame → List Primitive
primitives_at policy [] = []
primitives_at policy (frame ∷ frames) = primitives_in policy frame

abbrev pub asking : ℕ → List Primitive → Phase
asking stage [] = Over
asking stage (a ∷ later) = Asked stage a later

abbrev pub refusing : ℕ → List Primitive → Phase
refusing stage [] = Over
refusing stage (a ∷ later) = Refused stage a later

-- the phase that a held one stands for, where these primitives are passed
abbrev pub phase_by : List Primitive → HeldPhase → Phase
phase_by all (HeldVisit stage) = onward stage (drop stage all)
phase_by all (HeldAsked stage) = asking stage (drop stage all)
phase_by all (HeldRefused stage) = refusing stage (drop stage all)
phase_by all HeldSplit = FreeSplit
phase_by all HeldOver = Over

-- the board that a held one stands for
abbrev pub board_in : Checked → Policy → State → Board
board_in checked policy state = record {
  stack = stack_in (scene checked policy) state.stack;
  kept = state.kept.items;
  caps = state.caps;
  word = state.word.items;
  phase = phase_by (primitives_at (policy_of policy) (stack_in (scene checked policy) state.stack)) state.phase;
}

abbrev pub board_of : Checked → Policy → HeldBoard → Board
board_of checked policy held = board_in checked policy held.state

-- how many seams these functions have together
abbrev pub seams_before : Scene → List Function → ℕ
seams_before s [] = 0
seams_before s (f ∷ fs) = 1 + seams_all (stms_in s f.body.items) + seams_before s fs

-- a source with so few seams that each, and the one behind it, has a number of 64 bits
abbrev pub HasFewSeams : Checked → Policy → Type 0
HasFewSeams checked policy = seams_before (scene checked policy) checked.program.functions.items < most_seams

-- a board of this source and policy: it has their names, says of itself whether it violates, and its seams have such numbers
pub record IsBoard (checked : Checked) (policy : Policy) (held : HeldBoard) : Type 0 where
  pub named : held.scene ≡ scene checked policy
  pub judged : IsTrue held.violates ↔ Violates (problem checked policy) (board_of checked policy held)
  pub few : HasFewSeams checked policy
  pub below : StackBelow most_seams (board_of checked policy held).stack

-- the board after a move; none exactly where the move isn't the board's
abbrev pub After : Checked → Policy → HeldBoard → Move → Option HeldBoard → Type 0
After checked policy held by None = (next : Board) → Moves (problem checked policy) (board_of checked policy held) by next → ⊥
After checked policy held by (Some next) =
    Moves (problem checked policy) (board_of checked policy held) by (board_of checked policy next) × IsBoard checked policy next

-- whether a board has a move
abbrev pub HasMove : Checked → Policy → HeldBoard → Move → Type 0
HasMove checked policy held by = (next : Board) × Moves (problem checked policy) (board_of checked policy held) by next
