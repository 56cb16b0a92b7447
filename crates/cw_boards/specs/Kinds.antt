-- Working definitions: what a front item does, without what stands in it or behind it.
use Rattle.std.specs.Prelude.{Option, Some, None, List, [], ◌∷◌}
use Rattle.cw_syntax.specs.Plans.{Stm, Plain, Break, Continue, Return, Open, Close, Call, Group, Label, If, While, Do, For}
use Rattle.cw_syntax.specs.Frames.{Item, Entry, Todo, Test, After, LoopEnd, End, Frame}
use Rattle.cw_resolve.specs.declared.actions.Act.{Act}
use Rattle.cw_resolve.specs.declared.actions.Act.TheVariants.{Computes as ComputesAct, Opens as OpensAct, Closes as ClosesAct, Invokes as InvokesAct}
use Rattle.cw_boards.specs.declared.kinds.FrontKind.{FrontKind}
use Rattle.cw_boards.specs.declared.kinds.FrontKind.TheVariants.{Entry as EntryKind, Plain as PlainKind, Break as BreakKind, Continue as ContinueKind, Return as ReturnKind, Open as OpenKind}
use Rattle.cw_boards.specs.declared.kinds.FrontKind.TheVariants.{Close as CloseKind, Call as CallKind, Group as GroupKind, Label as LabelKind, If as IfKind, Loop as LoopKind, Test as TestKind}
use Rattle.cw_boards.specs.declared.kinds.FrontKind.TheVariants.{Step as StepKind, LoopEnd as LoopEndKind, End as EndKind}

abbrev pub act_kind : Act → FrontKind
act_kind ComputesAct = PlainKind
act_kind (OpensAct d) = OpenKind d
act_kind (ClosesAct d) = CloseKind d
act_kind (InvokesAct number split result) = CallKind number split

abbrev pub kind_of : Stm → FrontKind
kind_of (Plain at) = PlainKind
kind_of (Break at) = BreakKind
kind_of (Continue at) = ContinueKind
kind_of (Return at) = ReturnKind
kind_of (Open at j d) = OpenKind d
kind_of (Close at j d) = CloseKind d
kind_of (Call at j callee) = CallKind callee.number callee.split
kind_of (Group ss) = GroupKind
kind_of (Label at mark j l s) = LabelKind l
kind_of (If at s t) = IfKind
kind_of (While at s) = LoopKind
kind_of (Do at s) = LoopKind
kind_of (For at init decided stepped s) = LoopKind

abbrev pub item_kind : Item → FrontKind
item_kind (Entry f j) = EntryKind
item_kind (Todo s) = kind_of s
item_kind (Test at decided stepped s) = TestKind decided
item_kind (After at) = StepKind
item_kind LoopEnd = LoopEndKind
item_kind (End f) = EndKind

-- the kind of the front item of the top frame
abbrev pub frame_kind : Frame → Option FrontKind
frame_kind [] = None
frame_kind (i ∷ is) = Some (item_kind i)

abbrev pub front_kind : List Frame → Option FrontKind
front_kind [] = None
front_kind (frame ∷ frames) = frame_kind frame
