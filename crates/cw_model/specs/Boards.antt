-- Boards, and the moves of the weaver and of the environment. The game is that of Harris, Jha, Reps, Anderson and Watson (2013) over
-- stacks of frames, as in the visibly pushdown games of Löding, Madhusudan and Serre (2004); the primitives are those of
-- capsicum(4), cap_enter(2) and cap_rights_limit(2).
use Rattle.std.specs.Prelude.{◌≡◌, ◌≢◌, ◌⊎◌, ℕ, zero, suc, List, [], ◌∷◌, ◌++◌, Bool, true, false, cond, not, ◌||◌, ◌&&◌, Option, Some, None, option_map, slice_get}
use Rattle.cw_rights.specs.declared.capabilities.Caps.{Caps}
use Rattle.cw_rights.specs.declared.capabilities.Primitive.{Primitive}
use Rattle.cw_rights.specs.declared.capabilities.Primitive.TheVariants.{Limit, Enter, Split}
use Rattle.cw_rights.specs.declared.capabilities.Allowed.{Allowed}
use Rattle.cw_rights.specs.declared.capabilities.Allowed.TheVariants.{Yes, NotCapable, BadDescriptor}
use Rattle.cw_rights.specs.Capabilities.{allowed, applied, opened, closed}
use Rattle.cw_rights.specs.Words.{Word}
use Rattle.cw_rights.specs.Policies.{PlainDescriptor, PlainPolicy, IsBad, is_refusable, primitives, start_caps}
use Rattle.cw_certs.specs.declared.moves.Move.{Move}
use Rattle.cw_certs.specs.declared.moves.Move.TheVariants.{Skip, Try, Grant, Refuse, On, Left, Right, Opened, Failed, Stop}
use Rattle.cw_resolve.specs.Scenes.{names_of}
use Rattle.cw_syntax.specs.Trees.{File}
use Rattle.cw_syntax.specs.Plans.{Open, Close, Call, Label, Plan, plan_of}
use Rattle.cw_syntax.specs.Frames.{Entry, Todo, End, Frame, Way, pass, start_stack}
use Rattle.cw_syntax.specs.Frames.{On as OnWay, Left as LeftWay, Right as RightWay, Opened as OpenedWay, Failed as FailedWay}

-- A program and the policy that it is to meet.
pub record Problem : Type 0 where
  pub plan : Plan
  pub policy : PlainPolicy

abbrev pub problem_of : PlainPolicy → List ℕ → File → Problem
problem_of policy source file = record { plan = plan_of (names_of policy) source file; policy = policy }

-- A phase of the front item of the top frame. In a visit the weaver skips or tries the primitive of this stage; then come those after it.
-- Asked, the environment grants or refuses it. Refused, where it can stop, the weaver goes on as a skip does or ends the program.
-- Free, the item is passed; after a granted split as a call in a process of its own. Over, the program has ended, with all that it called.
pub data Phase : Type 0 where
  Visit : (stage : ℕ) → Primitive → List Primitive → Phase
  Asked : (stage : ℕ) → Primitive → List Primitive → Phase
  Refused : (stage : ℕ) → Primitive → List Primitive → Phase
  Free : Phase
  FreeSplit : Phase
  Over : Phase

-- The stack has the top frame first. Beside each frame stands what is kept for its return: where it runs in a process of its own, the capabilities held at the call.
pub record Board : Type 0 where
  pub stack : List Frame
  pub kept : List (Option Caps)
  pub caps : Caps
  pub word : Word
  pub phase : Phase

-- the seam of a front item, and the primitives that are passed there
abbrev pub seam_in : Frame → Option ℕ
seam_in (Entry f j ∷ rest) = Some j
seam_in (Todo (Label at mark j l s) ∷ rest) = Some j
seam_in (Todo (Open at j d) ∷ rest) = Some j
seam_in (Todo (Close at j d) ∷ rest) = Some j
seam_in (Todo (Call at j callee) ∷ rest) = Some j
seam_in _ = None

abbrev pub primitives_in : PlainPolicy → Frame → List Primitive
primitives_in policy (Entry f j ∷ rest) = primitives policy false
primitives_in policy (Todo (Label at mark j l s) ∷ rest) = primitives policy false
primitives_in policy (Todo (Call at j callee) ∷ rest) = primitives policy callee.split
primitives_in policy _ = []

-- the phase of this stage, where these primitives are still to be passed
abbrev pub onward : ℕ → List Primitive → Phase
onward stage [] = Free
onward stage (a ∷ later) = Visit stage a later

-- the phase in which a front begins
abbrev pub begin : PlainPolicy → List Frame → Phase
begin policy [] = Over
begin policy (frame ∷ frames) = onward 0 (primitives_in policy frame)

-- the letter of a label at the front, under these capabilities
abbrev pub letters_in : Frame → Caps → Word
letters_in (Todo (Label at mark j l s) ∷ rest) caps = record { label = l; caps = caps } ∷ []
letters_in _ caps = []

abbrev pub letters : List Frame → Caps → Word
letters [] caps = []
letters (frame ∷ frames) caps = letters_in frame caps

abbrev pub start_board : Problem → Board
start_board p = record { stack = start_stack p.plan; kept = None ∷ []; caps = start_caps p.policy; word = []; phase = begin p.policy (start_stack p.plan) }

-- a label is reached, after its primitives, and the word with its letter is bad
abbrev pub Violates : Problem → Board → Type 0
Violates p b = (b.phase ≡ Free) × (letters b.stack b.caps ≢ []) × IsBad p.policy (b.word ++ letters b.stack b.caps)

-- whether a primitive may be granted: a limit only where it is allowed
abbrev pub is_yes : Allowed → Bool
is_yes Yes = true
is_yes NotCapable = false
is_yes BadDescriptor = false

abbrev pub may_grant : Caps → Primitive → Bool
may_grant caps (Limit limit) = is_yes (allowed caps limit)
may_grant caps Enter = true
may_grant caps Split = true

-- and whether it may be refused: where it can't be granted, or where the policy says so of its kind
abbrev pub may_refuse : PlainPolicy → Caps → Primitive → Bool
may_refuse policy caps a = not (may_grant caps a) || is_refusable policy a

-- and whether the weaver can stop when it is refused: the policy lets it, and lets the kind be refused, and it could have been granted too
abbrev pub can_stop : PlainPolicy → Caps → Primitive → Bool
can_stop policy caps a = policy.stop && (is_refusable policy a && may_grant caps a)

-- the ways on that are moves of the environment
abbrev pub way_of : Move → Option Way
way_of On = Some OnWay
way_of Left = Some LeftWay
way_of Right = Some RightWay
way_of Opened = Some OpenedWay
way_of Failed = Some FailedWay
way_of _ = None

-- the move by which the program goes a way
abbrev pub move_of : Way → Move
move_of OnWay = On
move_of LeftWay = Left
move_of RightWay = Right
move_of OpenedWay = Opened
move_of FailedWay = Failed

-- what is kept for the return of a call in a mode
abbrev pub mode_of : Bool → Caps → Option Caps
mode_of true caps = Some caps
mode_of false caps = None

-- what is kept after a step: a call keeps by its mode, an end forgets
abbrev pub kept_after : Option Caps → List Frame → List (Option Caps) → List (Option Caps)
kept_after mode ((Todo (Call at j callee) ∷ is) ∷ frames) kept = mode ∷ kept
kept_after mode ((End f ∷ is) ∷ frames) (k ∷ kept) = kept
kept_after mode _ kept = kept

-- the capabilities after an open that gave a descriptor: it has the rights that the policy states
abbrev pub with_opened : Caps → ℕ → Option PlainDescriptor → Caps
with_opened caps d None = caps
with_opened caps d (Some descriptor) = opened caps d descriptor.rights

abbrev pub after_open : PlainPolicy → Caps → ℕ → Way → Caps
after_open policy caps d OpenedWay = with_opened caps d (slice_get policy.descriptors d)
after_open policy caps d _ = closed caps d

-- after the end of a frame that ran in a process of its own its caller holds what it held
abbrev pub given_back : List (Option Caps) → Caps → Caps
given_back (Some before ∷ kept) caps = before
given_back _ caps = caps

abbrev pub caps_after : PlainPolicy → List Frame → List (Option Caps) → Way → Caps → Caps
caps_after policy ((Todo (Open at j d) ∷ is) ∷ frames) kept way caps = after_open policy caps d way
caps_after policy ((Todo (Close at j d) ∷ is) ∷ frames) kept way caps = closed caps d
caps_after policy ((End f ∷ is) ∷ frames) kept way caps = given_back kept caps
caps_after policy _ kept way caps = caps

-- the board after a step of the program to this stack
abbrev pub landed : Problem → Option Caps → Board → Way → List Frame → Board
landed p mode b way next = record {
  stack = next;
  kept = kept_after mode b.stack b.kept;
  caps = caps_after p.policy b.stack b.kept way b.caps;
  word = b.word ++ letters b.stack b.caps;
  phase = begin p.policy next;
}

abbrev pub stepped : Problem → Option Caps → Board → Option Way → Option Board
stepped p mode b None = None
stepped p mode b (Some way) = option_map (landed p mode b way) (pass p.plan b.stack way)

-- the board after a primitive that was granted: a split is the last one, and makes the call one in a process of its own
abbrev pub granted : Board → ℕ → Primitive → List Primitive → Board
granted b stage Split later = record b { phase = FreeSplit }
granted b stage a later = record b { caps = applied b.caps a; phase = onward (suc stage) later }

abbrev pub passed_by : Board → ℕ → List Primitive → Board
passed_by b stage later = record b { phase = onward (suc stage) later }

abbrev pub refused : Problem → Board → ℕ → Primitive → List Primitive → Board
refused p b stage a later = record b { phase = cond (can_stop p.policy b.caps a) (Refused stage a later) (onward (suc stage) later) }

abbrev pub answered : Problem → Board → ℕ → Primitive → List Primitive → Move → Option Board
answered p b stage a later Grant = cond (may_grant b.caps a) (Some (granted b stage a later)) None
answered p b stage a later Refuse = cond (may_refuse p.policy b.caps a) (Some (refused p b stage a later)) None
answered p b stage a later _ = None

-- The board after a move, where the phase gives it.
abbrev pub moved : Problem → Board → Phase → Move → Option Board
moved p b (Visit stage a later) Skip = Some (passed_by b stage later)
moved p b (Visit stage a later) Try = Some (record b { phase = Asked stage a later })
moved p b (Asked stage a later) m = answered p b stage a later m
moved p b (Refused stage a later) Skip = Some (passed_by b stage later)
moved p b (Refused stage a later) Stop = Some (record b { phase = Over })
moved p b Free m = stepped p None b (way_of m)
moved p b FreeSplit m = stepped p (Some b.caps) b (way_of m)
moved p b _ _ = None

-- whether a move in this phase is a refusal that can be answered with a stop
abbrev pub stop_answers : PlainPolicy → Caps → Phase → Move → Bool
stop_answers policy caps (Asked stage a later) Refuse = can_stop policy caps a
stop_answers policy caps _ _ = false

abbrev pub is_refused : Phase → Bool
is_refused (Refused stage a later) = true
is_refused _ = false

-- A board that violates has no move.
abbrev pub Moves : Problem → Board → Move → Board → Type 0
Moves p b m next = (Violates p b → ⊥) × (moved p b b.phase m ≡ Some next)

-- The two parties of the game.
pub data Party : Type 0 where
  Weaver : Party
  Environment : Party

-- whose turn it is in a phase; nobody's once all is over
abbrev pub turn_of : Phase → Option Party
turn_of (Visit stage a later) = Some Weaver
turn_of (Asked stage a later) = Some Environment
turn_of (Refused stage a later) = Some Weaver
turn_of Free = Some Environment
turn_of FreeSplit = Some Environment
turn_of Over = None

abbrev pub IsWeavers : Board → Type 0
IsWeavers b = turn_of b.phase ≡ Some Weaver

abbrev pub IsEnvironments : Board → Type 0
IsEnvironments b = turn_of b.phase ≡ Some Environment

-- The weaver can't avoid a violation, which comes after at most n moves.
abbrev pub Forced : Problem → ℕ → Board → Type 0
Forced p zero b = Violates p b
Forced p (suc n) b =
    Violates p b
    ⊎ ((IsWeavers b × ((m : Move) → (next : Board) → Moves p b m next → Forced p n next))
    ⊎ (IsEnvironments b × ((m : Move) × (next : Board) × Moves p b m next × Forced p n next)))
