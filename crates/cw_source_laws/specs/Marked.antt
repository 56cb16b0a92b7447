-- The law: the names that a program's marks have are C names.
use Rattle.std.specs.Prelude.{◌≡◌, ℕ, List, Some, IsTrue, slice_get}
use Rattle.std.specs.List.{All}
use Rattle.cw_rights.specs.Valid.{is_name}
use Rattle.cw_syntax.specs.declared.program.Name.{Name}
use Rattle.cw_syntax.specs.Names.{Names, text}
use Rattle.cw_syntax.specs.Trees.{Tree, File}
use Rattle.cw_syntax.specs.Plans.{plan_of}
use Rattle.cw_syntax.specs.Marks.{MarkKind, OpenMark, CallMark, marks_of}
use Rattle.cw_syntax.specs.PlainMarks.{ArePlainMarks}
use Rattle.cw_positions.specs.Opens.{assigned, EachStandsFrom}
use Rattle.cw_source.specs.Read.{ReadsAs}

-- the expression assigns the result of a call to a C name, if to any
abbrev pub AssignsName : List ℕ → Tree → Type 0
AssignsName source e = (x : Name) → assigned e ≡ Some x → IsTrue (is_name (text source x))

-- In each statement `x = f(..);` of a program that is read x is a C name.
abbrev pub ReadProgramsAssignNames : Type 0
ReadProgramsAssignNames = (source : List ℕ) (file : File) → ReadsAs source file → EachStandsFrom (AssignsName source) file.functions

-- a mark with a name has a C name: that of the descriptor that is opened, or of the variable that takes the result of a call
abbrev pub IsNamedKind : Names → List ℕ → MarkKind → Type 0
IsNamedKind names source (OpenMark d) = (name : List ℕ) × (slice_get names.descriptors d ≡ Some name) × IsTrue (is_name name)
IsNamedKind names source (CallMark (Some x)) = IsTrue (is_name (text source x))
IsNamedKind names source _ = Unit {0}

-- So the marks of its opens and calls have C names,
abbrev pub ReadProgramsMarkNames : Type 0
ReadProgramsMarkNames = (names : Names) (source : List ℕ) (file : File) → ReadsAs source file
    → All (λ m. IsNamedKind names source m.kind) (marks_of (plan_of names source file))

-- and no slash.
abbrev pub ReadProgramsMarkPlainly : Type 0
ReadProgramsMarkPlainly = (names : Names) (source : List ℕ) (file : File) → ReadsAs source file → ArePlainMarks source (marks_of (plan_of names source file))
