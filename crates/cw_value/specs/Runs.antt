-- Runs over values: values decide the program's way, the weaver skips always or makes the moves of a table, and answers to tries come from a list.
use Rattle.std.specs.Prelude.{◌≡◌, ◌≢◌, ℕ, zero, suc, ◌+◌, List, [], ◌∷◌, Bool, true, false, Option, Some, None}
use Rattle.cw_core.specs.declared.ids.SeamId.{SeamId}
use Rattle.cw_rights.specs.declared.capabilities.Primitive.{Primitive}
use Rattle.cw_rights.specs.Policies.{PlainPolicy}
use Rattle.cw_certs.specs.declared.moves.Move.{Move}
use Rattle.cw_certs.specs.declared.moves.Move.TheVariants.{Skip, Try, Grant, Refuse, Stop as StopMove}
use Rattle.cw_certs.specs.Tables.{Table}
use Rattle.cw_syntax.specs.Trees.{File}
use Rattle.cw_syntax.specs.Frames.{Way}
use Rattle.cw_model.specs.Boards.{Problem, problem_of, Phase, Visit, Asked, Refused as RefusedPhase, Free, FreeSplit, Over, Board, start_board, may_grant, may_refuse, moved, move_of}
use Rattle.cw_model.specs.Runs.{State, start_state, front_seam, WovenStep}
use Rattle.cw_value.specs.declared.values.Stop.{Stop}
use Rattle.cw_value.specs.declared.values.Stop.TheVariants.{Ended, Steps, Refused}
use Rattle.cw_value.specs.Expressions.{Memory, Outcome, gives, stops}
use Rattle.cw_value.specs.Declarations.{Done}
use Rattle.cw_value.specs.Machines.{Source, Machine, goes, halts, step}
use Rattle.cw_value.specs.Starts.{begun, main_machine}
use Rattle.cw_value.specs.Shown.{Answers, Values}

-- A state of a run over values: the board, with the memories of its frames where there is a table; the values; the answers to tries that
-- are left; how many tries were made.
pub record Going : Type 0 where
  pub woven : State
  pub machine : Machine
  pub tries : List Move
  pub tried : ℕ

-- What is answered to a try, and the answers that are left: where both are moves the next of the list, or a grant where none is left.
abbrev pub taken : List Move → Move × List Move
taken [] = (Grant, [])
taken (a ∷ rest) = (a, rest)

abbrev pub answer_by : (grant refuse : Bool) → List Move → Move × List Move
answer_by true true tries = taken tries
answer_by true false tries = (Grant, tries)
answer_by false refuse tries = (Refuse, tries)

abbrev pub answer : Problem → Board → Primitive → List Move → Move × List Move
answer p b a tries = answer_by (may_grant b.caps a) (may_refuse p.policy b.caps a) tries

abbrev pub counted : Move → ℕ → ℕ
counted Try n = n + 1
counted _ n = n

-- the run ends here, so
abbrev pub ended_values : Going → Stop → Values
ended_values s stop = record { made = s.machine.made; tried = s.tried; stop = stop }

abbrev pub is_split : Phase → Bool
is_split FreeSplit = true
is_split _ = false

-- the program's step is due
abbrev pub IsFree : Phase → Type 0
IsFree Free = Unit {0}
IsFree FreeSplit = Unit {0}
IsFree _ = ⊥

-- the weaver's move is due
abbrev pub IsWeaving : Phase → Type 0
IsWeaving (Visit stage a later) = Unit {0}
IsWeaving (RefusedPhase stage a later) = Unit {0}
IsWeaving _ = ⊥

module _ (source : Source) (p : Problem) where
  -- A move. Without a table it is the board's alone, and a violation stops nothing; with a table it is one of the woven program.
  abbrev pub Leads : Option Table → State → Move → State → Type 0
  Leads None s m next = (moved p s.board s.board.phase m ≡ Some next.board) × (next.mems ≡ s.mems)
  Leads (Some t) s m next = WovenStep p t s m next

  -- Without a table the weaver skips.
  abbrev pub Chooses : Option Table → Move → Type 0
  Chooses None m = m ≡ Skip
  Chooses (Some t) m = Unit {0}

  module _ (weaver : Option Table) where
    -- From this state, with so many steps of the program left, the run ends so. A step of the program that isn't the last comes before the next visit's move.
    pub data Ends : ℕ → Going → Values → Type 0 where
      over : (n : ℕ) (s : Going) → s.woven.board.phase ≡ Over → Ends n s (ended_values s Ended)
      spent : (s : Going) → s.woven.board.phase ≢ Over → Ends zero s (ended_values s Steps)
      weaves : (n : ℕ) (s : Going) (m : Move) (next : State) (v : Values) → IsWeaving s.woven.board.phase → Chooses weaver m → m ≢ StopMove
          → Leads weaver s.woven m next
          → Ends (suc n) (record s { woven = next; tried = counted m s.tried }) v → Ends (suc n) s v
      quits : (n : ℕ) (s : Going) (next : State) (seam : SeamId) → IsWeaving s.woven.board.phase → Chooses weaver StopMove
          → Leads weaver s.woven StopMove next → front_seam s.woven.board.stack ≡ Some seam.0 → Ends (suc n) s (ended_values s (Refused seam))
      asks : (n : ℕ) (s : Going) (stage : ℕ) (a : Primitive) (later : List Primitive) (next : State) (v : Values)
          → s.woven.board.phase ≡ Asked stage a later → Leads weaver s.woven (answer p s.woven.board a s.tries).0 next
          → Ends (suc n) (record s { woven = next; tries = (answer p s.woven.board a s.tries).1 }) v → Ends (suc n) s v
      steps : (n : ℕ) (s : Going) (way : Way) (m : Machine) (next : State) (v : Values) → IsFree s.woven.board.phase
          → step source (is_split s.woven.board.phase) s.woven.board.stack s.machine ≡ goes way m
          → Leads weaver s.woven (move_of way) next → Ends n (record s { woven = next; machine = m }) v → Ends (suc n) s v
      halted : (n : ℕ) (s : Going) (why : Stop) (m : Machine) → IsFree s.woven.board.phase
          → step source (is_split s.woven.board.phase) s.woven.board.stack s.machine ≡ halts why m
          → Ends (suc n) s (record { made = m.made; tried = s.tried; stop = why })

-- the most steps of a program
abbrev pub most_steps : ℕ
most_steps = 1000000

abbrev pub first_state : Problem → Option Table → State
first_state p None = record { board = start_board p; mems = [] }
first_state p (Some t) = start_state p t

-- the first state, after the turns of the declarations at file scope
abbrev pub going_start : Source → Problem → Option Table → List Move → Memory → Going
going_start source p weaver tries m = record { woven = first_state p weaver; machine = main_machine source p.plan.main m; tries = tries; tried = 0 }

-- a stop in an initialiser at file scope ends the run before its first move
abbrev pub RunsFrom : Source → Problem → Option Table → List Move → Outcome Done → Values → Type 0
RunsFrom source p weaver tries (stops why m) v = v ≡ record { made = m.made; tried = 0; stop = why }
RunsFrom source p weaver tries (gives d m) v = Ends source p weaver most_steps (going_start source p weaver tries m) v

abbrev pub source_of : List ℕ → File → Answers → Source
source_of bytes file answers = record { bytes = bytes; file = file; given = answers.names }

abbrev pub IsRun : Option Table → PlainPolicy → List ℕ → File → Answers → Values → Type 0
IsRun weaver policy bytes file answers v =
    RunsFrom (source_of bytes file answers) (problem_of policy bytes file) weaver answers.tries (begun (source_of bytes file answers) answers.calls) v

-- The run of a source as it is, and that of the woven program with a table, over the same answers.
abbrev pub IsPlainRun : PlainPolicy → List ℕ → File → Answers → Values → Type 0
IsPlainRun policy bytes file answers v = IsRun None policy bytes file answers v

abbrev pub IsWovenRun : PlainPolicy → Table → List ℕ → File → Answers → Values → Type 0
IsWovenRun policy table bytes file answers v = IsRun (Some table) policy bytes file answers v
