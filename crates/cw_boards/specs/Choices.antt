-- Working definitions: what a move does in the phase of a held board.
use Rattle.std.specs.Prelude.{ℕ, ◌+◌, List, [], Bool, true, false, cond, Option, Some, None, slice_get}
use Rattle.cw_rights.specs.declared.capabilities.Caps.{Caps}
use Rattle.cw_rights.specs.declared.capabilities.Primitive.{Primitive}
use Rattle.cw_rights.specs.declared.capabilities.Primitive.TheVariants.{Split}
use Rattle.cw_rights.specs.Capabilities.{applied}
use Rattle.cw_rights.specs.Policies.{PlainPolicy, primitives}
use Rattle.cw_certs.specs.declared.moves.Move.{Move}
use Rattle.cw_certs.specs.declared.moves.Move.TheVariants.{Skip, Try, Grant, Refuse, Stop}
use Rattle.cw_model.specs.Boards.{Problem, Board, may_grant, may_refuse, can_stop, way_of, stepped, mode_of}
use Rattle.cw_boards.specs.declared.kinds.FrontKind.{FrontKind}
use Rattle.cw_boards.specs.declared.kinds.FrontKind.TheVariants.{Entry, Label, Call}
use Rattle.cw_boards.specs.declared.choices.Phase.{Phase as HeldPhase}
use Rattle.cw_boards.specs.declared.choices.Phase.TheVariants.{Visit as HeldVisit, Asked as HeldAsked, Refused as HeldRefused, Split as HeldSplit, Over as HeldOver}
use Rattle.cw_boards.specs.declared.choices.Choice.{Choice}
use Rattle.cw_boards.specs.declared.choices.Choice.TheVariants.{Forbidden, To, Grants, Steps}
use Rattle.cw_boards.specs.Held.{primitives_at, phase_by}

-- the primitives that are passed at a front item of this kind
abbrev pub primitives_by : PlainPolicy → Option FrontKind → List Primitive
primitives_by policy (Some Entry) = primitives policy false
primitives_by policy (Some (Label l)) = primitives policy false
primitives_by policy (Some (Call f split)) = primitives policy split
primitives_by policy _ = []

abbrev pub granted_choice : Primitive → ℕ → Choice
granted_choice Split next = To HeldSplit
granted_choice a next = Grants a next

abbrev pub visited_choice : ℕ → Move → Choice
visited_choice stage Skip = To (HeldVisit (stage + 1))
visited_choice stage Try = To (HeldAsked stage)
visited_choice stage _ = Forbidden

-- the phase after a refusal, by whether the weaver can stop
abbrev pub refused_phase : Bool → ℕ → HeldPhase
refused_phase true stage = HeldRefused stage
refused_phase false stage = HeldVisit (stage + 1)

abbrev pub answered_choice : PlainPolicy → Caps → ℕ → Primitive → Move → Choice
answered_choice policy caps stage a Grant = cond (may_grant caps a) (granted_choice a (stage + 1)) Forbidden
answered_choice policy caps stage a Refuse = cond (may_refuse policy caps a) (To (refused_phase (can_stop policy caps a) stage)) Forbidden
answered_choice policy caps stage a _ = Forbidden

abbrev pub resumed_choice : ℕ → Move → Choice
resumed_choice stage Skip = To (HeldVisit (stage + 1))
resumed_choice stage Stop = To HeldOver
resumed_choice stage _ = Forbidden

abbrev pub visit_choice : ℕ → Option Primitive → Move → Choice
visit_choice stage None by = Steps false
visit_choice stage (Some a) by = visited_choice stage by

abbrev pub asked_choice : PlainPolicy → Caps → ℕ → Option Primitive → Move → Choice
asked_choice policy caps stage None by = Forbidden
asked_choice policy caps stage (Some a) by = answered_choice policy caps stage a by

abbrev pub refused_choice : ℕ → Option Primitive → Move → Choice
refused_choice stage None by = Forbidden
refused_choice stage (Some a) by = resumed_choice stage by

abbrev pub choice_of : PlainPolicy → List Primitive → Caps → HeldPhase → Move → Choice
choice_of policy all caps (HeldVisit stage) by = visit_choice stage (slice_get all stage) by
choice_of policy all caps (HeldAsked stage) by = asked_choice policy caps stage (slice_get all stage) by
choice_of policy all caps (HeldRefused stage) by = refused_choice stage (slice_get all stage) by
choice_of policy all caps HeldSplit by = Steps true
choice_of policy all caps HeldOver by = Forbidden

-- the board after a choice
abbrev pub chosen : Problem → Board → Choice → Move → Option Board
chosen p b Forbidden by = None
chosen p b (To phase) by = Some (record b { phase = phase_by (primitives_at p.policy b.stack) phase })
chosen p b (Grants a stage) by = Some (record b { caps = applied b.caps a; phase = phase_by (primitives_at p.policy b.stack) (HeldVisit stage) })
chosen p b (Steps split) by = stepped p (mode_of split b.caps) b (way_of by)
