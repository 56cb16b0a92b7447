-- What a woven text is read as, and why any other text is refused.
use Rattle.std.specs.Prelude.{◌≡◌, ◌≢◌, ℕ, ◌+◌, ◌<◌, ◌≤◌, ◌⊎◌, None, Some, List, [], ◌∷◌, ◌++◌, map, length, slice_get, codes}
use Rattle.std.specs.List.{AllByRecursion}
use Rattle.cw_core.specs.Quantities.{limit_of}
use Rattle.cw_core.specs.declared.quantity.Quantity.TheVariants.{Points, SourceBytes}
use Rattle.cw_rights.specs.Policies.{PlainPolicy}
use Rattle.cw_syntax.specs.Trees.{File}
use Rattle.cw_syntax.specs.Plans.{plan_of}
use Rattle.cw_syntax.specs.Marks.{SeamMark, marks_of}
use Rattle.cw_resolve.specs.Scenes.{names_of}
use Rattle.cw_certs.specs.Tables.{Table}
use Rattle.cw_table_text.specs.Grammar.{Spells, IsFault as IsTableFault}
use Rattle.cw_scope.specs.Descriptors.{descriptor_fault}
use Rattle.cw_source.specs.declared.fault.SourceFault.{SourceFault}
use Rattle.cw_source.specs.declared.fault.SourceFault.TheVariants as read
use Rattle.cw_source.specs.Read.{ReadsAs, IsFaultOf}
use Rattle.cw_points.specs.Points.{point_count}
use Rattle.cw_emit.specs.Cut.{opening, closing}
use Rattle.cw_syntax.specs.PlainMarks.{HasNone}
use Rattle.cw_emit.specs.Woven.{placed}
use Rattle.cw_woven.specs.Parts.{Insertion, IsCutAt, AreParts, without, places}
use Rattle.cw_woven.specs.Woven.{IsSpelling}
use Rattle.cw_woven.specs.declared.fault.CutFault.{CutFault}
use Rattle.cw_woven.specs.declared.fault.CutFault.TheVariants.{TooLong, Read, Descriptors, TooManyPoints}
use Rattle.cw_woven.specs.declared.fault.WovenFault.{WovenFault}
use Rattle.cw_woven.specs.declared.fault.WovenFault.TheVariants.{Mark, Table as InTable, Source as InSource, Misplaced, NoMemory}

-- the marks of the seams of a program in a policy
abbrev pub seam_marks : PlainPolicy → List ℕ → File → List SeamMark
seam_marks policy source file = marks_of (plan_of (names_of policy) source file)

-- A source and its program as far as they are looked at before the policy is fitted to them: it isn't too long, it is read as the
-- program, the descriptors keep their rules in it, and it has no more points than it may.
pub record IsAccepted (policy : PlainPolicy) (source : List ℕ) (file : File) : Type 0 where
  pub short : length source ≤ limit_of SourceBytes
  pub reads : ReadsAs source file
  pub descriptors : descriptor_fault source file policy ≡ None
  pub few : point_count (plan_of (names_of policy) source file) ≤ limit_of Points

-- Why a source isn't, in the order in which it is tested.
abbrev pub IsRead : List ℕ → SourceFault → Type 0
IsRead source read.NoMemory = ⊥
IsRead source fault = IsFaultOf source fault

abbrev pub IsCutFault : PlainPolicy → List ℕ → CutFault → Type 0
IsCutFault policy source TooLong = limit_of SourceBytes < length source
IsCutFault policy source (Read fault) = (length source ≤ limit_of SourceBytes) × IsRead source fault
IsCutFault policy source (Descriptors fault) = (file : File) × (length source ≤ limit_of SourceBytes) × ReadsAs source file × (descriptor_fault source file policy ≡ Some fault)
IsCutFault policy source TooManyPoints =
    (file : File) × (length source ≤ limit_of SourceBytes) × ReadsAs source file × (descriptor_fault source file policy ≡ None) × (limit_of Points < point_count (plan_of (names_of policy) source file))

-- the text begins with an opening and LF, as a prologue does
abbrev pub Begins : List ℕ → Type 0
Begins text = (rest : List ℕ) × (text ≡ opening ++ (codes "\n" ++ rest))

-- the first part is the prologue, with these lines; the others are marks, each spelled as some mark is
abbrev pub the_prologue : List ℕ → Insertion
the_prologue lines = record { gap = []; inner = codes "\n" ++ lines }

-- the parts of a text up to what is left: the prologue with these lines, and marks that are spelled as marks are
pub record BeginsParted (text lines : List ℕ) (marks : List Insertion) (left : List ℕ) : Type 0 where
  pub parts : AreParts text (the_prologue lines ∷ marks) left
  pub spelled : AllByRecursion (λ p. IsSpelling p.inner) marks

-- and nothing opens behind them
pub record IsParted (text lines : List ℕ) (marks : List Insertion) (left : List ℕ) : Type 0 where
  pub begins : BeginsParted text lines marks left
  pub whole : HasNone opening left

-- the text is of parts, and the lines in the first are those of the table
pub record HasTable (policy : PlainPolicy) (text : List ℕ) (marks : List Insertion) (left : List ℕ) (table : Table) : Type 0 where
  pub lines : List ℕ
  pub parted : IsParted text lines marks left
  pub spells : Spells policy lines table

-- What a text is read as: a source that is accepted, and a table. Its parts are the prologue with the table and the marks of the
-- source's seams, each at its place; without them it is the source.
pub record ReadsWoven (policy : PlainPolicy) (text source : List ℕ) (file : File) (table : Table) : Type 0 where
  pub marks : List Insertion
  pub left : List ℕ
  pub has : HasTable policy text marks left table
  pub is : source ≡ without marks left
  pub accepted : IsAccepted policy source file
  pub placed : places marks ≡ map (placed policy source) (seam_marks policy source file)

-- The opened part isn't closed, or what is in it is none of the spellings.
abbrev pub IsNoMark : List ℕ → Type 0
IsNoMark remainder = HasNone closing remainder ⊎ ((inner : List ℕ) × (after : List ℕ) × IsCutAt closing remainder inner after × ¬ (IsSpelling inner))

-- The first opening at fault: 0 where the text doesn't begin as a prologue does, or where that isn't closed; else that of the first part
-- behind the prologue that is no mark.
abbrev pub IsMark : List ℕ → ℕ → Type 0
IsMark text at =
    ((at ≡ 0) × ¬ (Begins text)) ⊎ (((at ≡ 0) × (rest : List ℕ) × (text ≡ opening ++ (codes "\n" ++ rest)) × HasNone closing (codes "\n" ++ rest)) ⊎
    ((lines : List ℕ) × (marks : List Insertion) × (left : List ℕ) × (gap : List ℕ) × (remainder : List ℕ) × BeginsParted text lines marks left
    × IsCutAt opening left gap remainder × IsNoMark remainder × (at + length (opening ++ remainder) ≡ length text)))

-- the lists are the same up to a place, and there they differ, or only one of them has so many members
abbrev pub IsFirstDifference : List (ℕ × List ℕ) → List (ℕ × List ℕ) → ℕ → Type 0
IsFirstDifference these those n = (slice_get these n ≢ slice_get those n) × ((k : ℕ) → k < n → slice_get these k ≡ slice_get those k)

-- Why a text is refused, in the order in which it is tested. Want of memory may always come.
abbrev pub IsFault : PlainPolicy → List ℕ → WovenFault → Type 0
IsFault policy text (Mark at) = IsMark text at
IsFault policy text (InTable fault) = (lines : List ℕ) × (marks : List Insertion) × (left : List ℕ) × IsParted text lines marks left × IsTableFault policy lines fault
IsFault policy text (InSource fault) = (marks : List Insertion) × (left : List ℕ) × (table : Table) × HasTable policy text marks left table × IsCutFault policy (without marks left) fault
IsFault policy text (Misplaced n) =
    (marks : List Insertion) × (left : List ℕ) × (table : Table) × (file : File) × HasTable policy text marks left table × IsAccepted policy (without marks left) file
    × IsFirstDifference (places marks) (map (placed policy (without marks left)) (seam_marks policy (without marks left) file)) n
IsFault policy text NoMemory = Unit {0}

-- the same, of a text which without its parts is this source
abbrev pub IsFaultOver : PlainPolicy → (text source : List ℕ) → WovenFault → Type 0
IsFaultOver policy text source (InSource fault) =
    (marks : List Insertion) × (left : List ℕ) × (table : Table) × HasTable policy text marks left table × (source ≡ without marks left) × IsCutFault policy source fault
IsFaultOver policy text source fault = IsFault policy text fault

-- the text is read as a source and a table
abbrev pub Reads : PlainPolicy → (text source : List ℕ) → Table → Type 0
Reads policy text source table = (file : File) × ReadsWoven policy text source file table
