-- Working definitions: what a step changes of what a board holds, and whether there is one.
use Rattle.std.specs.Prelude.{List, [], ◌∷◌, Bool, true, false, Option, Some, None, drop, is_some}
use Rattle.cw_rights.specs.declared.capabilities.Caps.{Caps}
use Rattle.cw_rights.specs.declared.words.Letter.{Letter}
use Rattle.cw_rights.specs.Capabilities.{closed}
use Rattle.cw_rights.specs.Words.{Word}
use Rattle.cw_rights.specs.Policies.{PlainPolicy}
use Rattle.cw_syntax.specs.Plans.{Plan}
use Rattle.cw_syntax.specs.Frames.{Frame, Way, broken, continued, frame_of, popped, pass}
use Rattle.cw_model.specs.Boards.{Problem, Phase, Free, after_open, given_back}
use Rattle.cw_boards.specs.declared.turns.Turn.{Turn}
use Rattle.cw_boards.specs.declared.turns.Turn.TheVariants.{Breaks, Continues, Calls, Returns, Stops}
use Rattle.cw_boards.specs.declared.kinds.FrontKind.{FrontKind}
use Rattle.cw_boards.specs.declared.kinds.FrontKind.TheVariants.{Open, Close, Call, Label, End}

-- what a step changes, by the kind of the front item
abbrev pub kept_by : FrontKind → Option Caps → List (Option Caps) → List (Option Caps)
kept_by (Call f split) mode kept = mode ∷ kept
kept_by End mode kept = drop 1 kept
kept_by _ mode kept = kept

abbrev pub caps_by : PlainPolicy → FrontKind → List (Option Caps) → Way → Caps → Caps
caps_by policy (Open d) kept way caps = after_open policy caps d way
caps_by policy (Close d) kept way caps = closed caps d
caps_by policy End kept way caps = given_back kept caps
caps_by policy _ kept way caps = caps

abbrev pub letters_by : FrontKind → Caps → Word
letters_by (Label l) caps = record { label = l; caps = caps } ∷ []
letters_by _ caps = []

-- the letter of a label that is reached, after its primitives
abbrev pub reached_letter : Phase → Option FrontKind → Caps → Option Letter
reached_letter Free (Some (Label l)) caps = Some (record { label = l; caps = caps })
reached_letter _ _ caps = None

abbrev pub is_free : Phase → Bool
is_free Free = true
is_free _ = false

-- whether a front that turns so is passed, by its frame and those below
abbrev pub may_turn : Plan → Turn → Frame → List Frame → Bool
may_turn plan Breaks frame below = is_some (broken frame)
may_turn plan Continues frame below = is_some (continued frame)
may_turn plan (Calls f) frame below = is_some (frame_of plan f)
may_turn plan Returns frame below = is_some (popped below)
may_turn plan Stops frame below = false
may_turn plan _ frame below = true

-- whether the program steps by this move
abbrev pub may_step : Problem → List Frame → Option Way → Bool
may_step p stack None = false
may_step p stack (Some way) = is_some (pass p.plan stack way)
