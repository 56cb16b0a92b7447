-- The trace of a play or a run: the lines of its moves, over boards.
use Rattle.std.specs.Prelude.{ℕ, List, [], ◌∷◌, ◌++◌, Bool, true, false, cond, Option, Some, None, nat_eq}
use Rattle.cw_rights.specs.declared.capabilities.Caps.{Caps}
use Rattle.cw_rights.specs.declared.capabilities.Primitive.{Primitive}
use Rattle.cw_rights.specs.Policies.{PlainPolicy}
use Rattle.cw_certs.specs.declared.moves.Move.{Move}
use Rattle.cw_certs.specs.declared.moves.Move.TheVariants.{Grant, Refuse, Opened, Failed, Stop}
use Rattle.cw_syntax.specs.Plans.{Open, Close, Call, Label}
use Rattle.cw_syntax.specs.Frames.{Todo, End, Frame}
use Rattle.cw_text.specs.LimitsText.{descriptor_name}
use Rattle.cw_model.specs.Boards.{Problem, Phase, Asked, Refused, Free, FreeSplit, Board, start_board}
use Rattle.cw_model.specs.Runs.{front_seam}
use Rattle.cw_resolve.specs.Held.{name_in}
use Rattle.cw_trace.specs.Lines.{try_line, stop_line, open_line, close_line, call_line, return_line, label_line}

-- The names that a trace tells beside those of the policy: of the functions by their numbers, of the labels by the numbers of their seams.
pub record Names : Type 0 where
  pub functions : List (List ℕ)
  pub labels : List (List ℕ)

-- what is asked of the seam at the front, and the answer
abbrev pub tried : Option ℕ → ℕ → Primitive → Bool → List ℕ
tried None stage a granted = []
tried (Some seam) stage a granted = try_line seam stage a granted

abbrev pub answered_lines : Option ℕ → ℕ → Primitive → Move → List ℕ
answered_lines seam stage a Grant = tried seam stage a true
answered_lines seam stage a Refuse = tried seam stage a false
answered_lines seam stage a _ = []

abbrev pub stopped : Option ℕ → List ℕ
stopped None = []
stopped (Some seam) = stop_line seam

abbrev pub stopped_lines : Option ℕ → Move → List ℕ
stopped_lines seam Stop = stopped seam
stopped_lines seam _ = []

abbrev pub opened_lines : List ℕ → Move → List ℕ
opened_lines name Opened = open_line name true
opened_lines name Failed = open_line name false
opened_lines name _ = []

-- the end of `main` has no line
abbrev pub returned_lines : Names → ℕ → ℕ → List ℕ
returned_lines names main f = cond (nat_eq f main) [] (return_line (name_in names.functions f))

-- what a step of the program tells that passes this front, in a process of its own where it is a split call
abbrev pub passed_lines : Names → Problem → (split : Bool) → Move → List Frame → List ℕ
passed_lines names p split by ((Todo (Open at j d) ∷ is) ∷ frames) = opened_lines (descriptor_name p.policy d) by
passed_lines names p split by ((Todo (Close at j d) ∷ is) ∷ frames) = close_line (descriptor_name p.policy d)
passed_lines names p split by ((Todo (Call at j callee) ∷ is) ∷ frames) = call_line (name_in names.functions callee.number) split
passed_lines names p split by ((End f ∷ is) ∷ frames) = returned_lines names p.plan.main f
passed_lines names p split by _ = []

abbrev pub move_lines : Names → Problem → Board → Phase → Move → List ℕ
move_lines names p b (Asked stage a later) by = answered_lines (front_seam b.stack) stage a by
move_lines names p b (Refused stage a later) by = stopped_lines (front_seam b.stack) by
move_lines names p b Free by = passed_lines names p false by b.stack
move_lines names p b FreeSplit by = passed_lines names p true by b.stack
move_lines names p b _ by = []

-- a label whose free phase is reached, after its primitives, with what is held there
abbrev pub label_lines : Names → PlainPolicy → Caps → List Frame → List ℕ
label_lines names policy caps ((Todo (Label at mark j l s) ∷ is) ∷ frames) = label_line policy.descriptors (name_in names.labels j) caps
label_lines names policy caps _ = []

abbrev pub reached_lines : Names → PlainPolicy → Board → Phase → List ℕ
reached_lines names policy b Free = label_lines names policy b.caps b.stack
reached_lines names policy b _ = []

-- The lines of one move, from a board to the next: what was done, and the label that is reached by it.
abbrev pub step_lines : Names → Problem → Board → Move → Board → List ℕ
step_lines names p b by next = move_lines names p b b.phase by ++ reached_lines names p.policy next next.phase

-- A move that was made, and the board after it.
pub record Taken : Type 0 where
  pub by : Move
  pub next : Board

-- the lines of the moves that were made from a board on, in order
abbrev pub lines_from : Names → Problem → Board → List Taken → List ℕ
lines_from names p b [] = []
lines_from names p b (taken ∷ later) = step_lines names p b taken.by taken.next ++ lines_from names p taken.next later

-- The trace of a play or a run: at the start nothing is told, since no label is the first item of a function.
abbrev pub trace : Names → Problem → List Taken → List ℕ
trace names p steps = lines_from names p (start_board p) steps

-- the board that these moves come to
abbrev pub board_after : Board → List Taken → Board
board_after b [] = b
board_after b (taken ∷ later) = board_after taken.next later
