-- Working definitions: what the program's data stand for, and what its functions answer.
use Rattle.std.specs.Prelude.{◌≡◌, ℕ, List, [], ◌∷◌, map, Option, None, Some}
use Rattle.cw_emit.specs.Cut.{opening, closing}
use Rattle.cw_syntax.specs.PlainMarks.{HasNone}
use Rattle.cw_woven.specs.declared.fault.WovenFault.{WovenFault}
use Rattle.cw_woven.specs.declared.fault.WovenFault.TheVariants as fault
use Rattle.cw_woven.specs.declared.parts.Insertion.{Insertion as Held}
use Rattle.cw_woven.specs.declared.reading.Unwoven.{Unwoven}
use Rattle.cw_rights.specs.Policies.{PlainPolicy}
use Rattle.cw_woven.specs.declared.scanning.Scanned.{Scanned}
use Rattle.cw_woven.specs.declared.scanning.Next.{Next}
use Rattle.cw_woven.specs.declared.scanning.Next.TheVariants as next
use Rattle.cw_woven.specs.Parts.{Insertion, IsCutAt, AreParts, without}
use Rattle.cw_woven.specs.Woven.{IsSpelling}
use Rattle.cw_woven.specs.Reading.{the_prologue, HasTable, IsFault, IsMark, IsNoMark, IsParted}

abbrev pub insertion_of : Held → Insertion
insertion_of p = record { gap = p.gap.now; inner = p.inner.now }

-- the lines of a prologue and the rest behind it; none where there is none
abbrev pub IsPrologue : List ℕ → Option (List ℕ × List ℕ) → Type 0
IsPrologue text (Some parts) = AreParts text (the_prologue parts.0 ∷ []) parts.1
IsPrologue text None = IsMark text 0

abbrev pub IsNext : List ℕ → Next → Type 0
IsNext left next.Done = HasNone opening left
IsNext left (next.Mark p after) = (remainder : List ℕ) × IsCutAt opening left p.gap.now remainder × IsCutAt closing remainder p.inner.now after.now × IsSpelling p.inner.now
IsNext left (next.Bad remainder) = (gap : List ℕ) × IsCutAt opening left gap remainder.now × IsNoMark remainder.now

abbrev pub IsScanned : List ℕ → Scanned → Type 0
IsScanned text s = IsParted text s.lines.now (map insertion_of s.marks.items) s.left.now

abbrev pub IsScanFault : List ℕ → WovenFault → Type 0
IsScanFault text (fault.Mark at) = IsMark text at
IsScanFault text fault.NoMemory = Unit {0}
IsScanFault text other = ⊥

-- the text is of parts, with the table in the first, and without them it is the source
pub record IsUnwoven (policy : PlainPolicy) (o : Unwoven) : Type 0 where
  pub has : HasTable policy o.text.now (map insertion_of o.marks.items) o.left.now o.table
  pub is : o.source.items ≡ without (map insertion_of o.marks.items) o.left.now

abbrev pub IsUnopened : PlainPolicy → List ℕ → WovenFault → Type 0
IsUnopened policy text (fault.Mark at) = IsFault policy text (fault.Mark at)
IsUnopened policy text (fault.Table why) = IsFault policy text (fault.Table why)
IsUnopened policy text fault.NoMemory = Unit {0}
IsUnopened policy text other = ⊥
