-- Working definitions: how a step passes a front item, by its kind.
use Rattle.std.specs.Prelude.{true, false, List, ◌∷◌, Option, Some, None, option_map}
use Rattle.cw_syntax.specs.Plans.{Label, If, Plan}
use Rattle.cw_syntax.specs.Frames.{Item, Todo, Test, Frame, after_if, broken, continued, ended, settle, popped, frame_of, Way}
use Rattle.cw_syntax.specs.Frames.{On as OnWay, Left as LeftWay, Right as RightWay, Opened as OpenedWay, Failed as FailedWay}
use Rattle.cw_boards.specs.declared.kinds.FrontKind.{FrontKind}
use Rattle.cw_boards.specs.declared.kinds.FrontKind.TheVariants.{Entry as EntryKind, Plain as PlainKind, Break as BreakKind, Continue as ContinueKind, Return as ReturnKind, Open as OpenKind}
use Rattle.cw_boards.specs.declared.kinds.FrontKind.TheVariants.{Close as CloseKind, Call as CallKind, Label as LabelKind, If as IfKind, Test as TestKind, Step as StepKind, End as EndKind}
use Rattle.cw_boards.specs.declared.turns.Way.{Way as HeldWay}
use Rattle.cw_boards.specs.declared.turns.Way.TheVariants.{On, Left, Right, Opened, Failed}
use Rattle.cw_boards.specs.declared.turns.Turn.{Turn}
use Rattle.cw_boards.specs.declared.turns.Turn.TheVariants.{Passes, Breaks, Continues, Ends, Enters, Calls, Returns, Stops}

abbrev pub way_in : HeldWay → Way
way_in On = OnWay
way_in Left = LeftWay
way_in Right = RightWay
way_in Opened = OpenedWay
way_in Failed = FailedWay

abbrev pub turn_on : FrontKind → Turn
turn_on EntryKind = Passes
turn_on PlainKind = Passes
turn_on BreakKind = Breaks
turn_on ContinueKind = Continues
turn_on ReturnKind = Ends
turn_on (CloseKind d) = Passes
turn_on (CallKind f split) = Calls f
turn_on (LabelKind l) = Enters
turn_on (TestKind false) = Enters
turn_on StepKind = Passes
turn_on EndKind = Returns
turn_on _ = Stops

abbrev pub turn_left : FrontKind → Turn
turn_left IfKind = Enters
turn_left (TestKind true) = Enters
turn_left _ = Stops

abbrev pub turn_right : FrontKind → Turn
turn_right IfKind = Enters
turn_right (TestKind true) = Passes
turn_right _ = Stops

abbrev pub turn_open : FrontKind → Turn
turn_open (OpenKind d) = Passes
turn_open _ = Stops

abbrev pub turn_of : FrontKind → HeldWay → Turn
turn_of kind On = turn_on kind
turn_of kind Left = turn_left kind
turn_of kind Right = turn_right kind
turn_of kind Opened = turn_open kind
turn_of kind Failed = turn_open kind

-- the statement that stands in the front item comes next
abbrev pub entered : Item → Way → Frame → Option Frame
entered (Todo (Label at mark j l s)) OnWay rest = Some (Todo s ∷ rest)
entered (Todo (If at s t)) LeftWay rest = Some (Todo s ∷ rest)
entered (Todo (If at s t)) RightWay rest = Some (Todo t ∷ rest)
entered (Test at true stepped s) LeftWay rest = Some (Todo s ∷ after_if stepped at (Test at true stepped s ∷ rest))
entered (Test at false stepped s) OnWay rest = Some (Todo s ∷ after_if stepped at (Test at false stepped s ∷ rest))
entered _ _ _ = None

-- what is to do then in the frame of the item
abbrev pub taken : Turn → Item → Way → Frame → Option Frame
taken Passes i way rest = Some rest
taken Breaks i way rest = broken rest
taken Continues i way rest = continued rest
taken Ends i way rest = Some (ended rest)
taken Enters i way rest = entered i way rest
taken _ i way rest = None

-- a step of a stack that has this item at its front
abbrev pub stepped_by : Plan → Turn → Item → Way → Frame → List Frame → Option (List Frame)
stepped_by plan (Calls f) i way is frames = option_map (λ frame. frame ∷ ((i ∷ is) ∷ frames)) (frame_of plan f)
stepped_by plan Returns i way is frames = popped frames
stepped_by plan turn i way is frames = option_map (λ next. settle next ∷ frames) (taken turn i way is)
