-- The marks of the seams: function by function, its entry first, then those of its statements from left to right.
use Rattle.std.specs.Prelude.{◌≡◌, ◌≤◌, ℕ, List, [], ◌∷◌, ◌++◌, Option, map, length}
use Rattle.std.specs.List.{range_with_len}
use Rattle.cw_syntax.specs.declared.program.Name.{Name}
use Rattle.cw_syntax.specs.declared.marks.MarkKind.{MarkKind as KindData}
use Rattle.cw_syntax.specs.declared.marks.MarkKind.TheVariants.{Entry as EntryData, Label as LabelData, Open as OpenData, Close as CloseData, Call as CallData}
use Rattle.cw_syntax.specs.declared.marks.SeamMark.{SeamMark as MarkData}
use Rattle.cw_syntax.specs.Names.{Names}
use Rattle.cw_syntax.specs.Trees.{File}
use Rattle.cw_syntax.specs.Plans.{Callee, Stm, Plain, Break, Continue, Return, Open, Close, Call, Group, Label, If, While, Do, For, Stms, end, then, Routine, Plan, plan_of}

-- What a mark stands at: an entry, a label, an open of a descriptor, a close, a call and the variable that takes its result.
pub data MarkKind : Type 0 where
  EntryMark : MarkKind
  LabelMark : MarkKind
  OpenMark : (descriptor : ℕ) → MarkKind
  CloseMark : MarkKind
  CallMark : (result : Option Name) → MarkKind

-- A mark: its place in the source, its seam's number, what it stands at.
pub record SeamMark : Type 0 where
  pub place : ℕ
  pub seam : ℕ
  pub kind : MarkKind

-- what the program's data stand for
abbrev pub kind_of : KindData → MarkKind
kind_of EntryData = EntryMark
kind_of LabelData = LabelMark
kind_of (OpenData d) = OpenMark d
kind_of CloseData = CloseMark
kind_of (CallData result) = CallMark result

abbrev pub mark_of : MarkData → SeamMark
mark_of m = record { place = m.place; seam = m.seam; kind = kind_of m.kind }

abbrev mutual
  pub marks_in : Stm → List SeamMark
  marks_in (Plain at) = []
  marks_in (Break at) = []
  marks_in (Continue at) = []
  marks_in (Return at) = []
  marks_in (Open at j d) = record { place = at; seam = j; kind = OpenMark d } ∷ []
  marks_in (Close at j d) = record { place = at; seam = j; kind = CloseMark } ∷ []
  marks_in (Call at j callee) = record { place = at; seam = j; kind = CallMark callee.result } ∷ []
  marks_in (Group ss) = marks_in_all ss
  marks_in (Label at mark j l s) = record { place = mark; seam = j; kind = LabelMark } ∷ marks_in s
  marks_in (If at s t) = marks_in s ++ marks_in t
  marks_in (While at s) = marks_in s
  marks_in (Do at s) = marks_in s
  marks_in (For at init decided stepped s) = marks_in s

  pub marks_in_all : Stms → List SeamMark
  marks_in_all end = []
  marks_in_all (then s ss) = marks_in s ++ marks_in_all ss

abbrev pub marks_from : List Routine → List SeamMark
marks_from [] = []
marks_from (r ∷ rs) = record { place = r.mark; seam = r.seam; kind = EntryMark } ∷ (marks_in_all r.body ++ marks_from rs)

abbrev pub marks_of : Plan → List SeamMark
marks_of plan = marks_from plan.routines

-- the marks stand in the order of their places, from this one on, and within a source of this length
abbrev pub AreInOrder : ℕ → ℕ → List SeamMark → Type 0
AreInOrder at len [] = at ≤ len
AreInOrder at len (m ∷ ms) = (at ≤ m.place) × (m.place ≤ len) × AreInOrder m.place len ms

-- The seams of every plan are numbered from 0 in the order in which `marks_of` lists their marks. It says nothing of their places: that these stand in
-- the same order holds of programs that are read, not of each file that can be written down.
abbrev pub SeamsAreInOrder : Type 0
SeamsAreInOrder = (names : Names) (source : List ℕ) (file : File) → map (λ m. m.seam) (marks_of (plan_of names source file)) ≡ range_with_len 0 (length (marks_of (plan_of names source file)))
