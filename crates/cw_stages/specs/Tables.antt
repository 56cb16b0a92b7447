-- A woven text is read as a file of a command: why one is refused, and what is told of the rows of its table.
use Rattle.std.specs.Prelude.{◌≡◌, ◌≢◌, ◌⊎◌, ℕ, List, [], ◌∷◌, ◌++◌, codes}
use Rattle.std.specs.Fmt.{decimal}
use Rattle.cw_core.specs.declared.quantity.Quantity.TheVariants.{Points, SourceBytes, Rows}
use Rattle.cw_rights.specs.Policies.{PlainPolicy}
use Rattle.cw_syntax.specs.Trees.{File}
use Rattle.cw_certs.specs.Tables.{Table}
use Rattle.cw_game.specs.Conditions.{Part, InMems, InLive, InTries, InAts, InOpened, InClosed, InInto, InBack, TableFault}
use Rattle.cw_text.specs.declared.fault.TextFault.{TextFault}
use Rattle.cw_text.specs.declared.fault.TextFault.TheVariants as fault
use Rattle.cw_woven.specs.declared.fault.CutFault.{CutFault}
use Rattle.cw_woven.specs.declared.fault.CutFault.TheVariants as cut
use Rattle.cw_woven.specs.declared.fault.WovenFault.{WovenFault}
use Rattle.cw_woven.specs.declared.fault.WovenFault.TheVariants as woven
use Rattle.cw_woven.specs.Reading.{IsFaultOver, ReadsWoven}
use Rattle.cw_commands.specs.declared.outcome.Cause.TheVariants.{Grammar, Source}
use Rattle.cw_commands.specs.Outcomes.{Due, Refused}
use Rattle.cw_stages.specs.Refusals.{descriptor_line, over, source_refusal}

-- the refusal by the first fault of a table's lines; where its rows are too many that is a limit
abbrev pub table_refusal : TextFault → Due
table_refusal (fault.Line n) = Refused Grammar (codes "woven: line " ++ decimal n)
table_refusal (fault.Order n) = Refused Grammar (codes "woven: order " ++ decimal n)
table_refusal (fault.Limit n) = over Rows
table_refusal fault.NoMemory = Refused Grammar (codes "memory")

-- what is due for the source of a woven text: a fault of it is one of the text, with the source's line, and a limit stays one
abbrev pub of_woven : Due → Due
of_woven (Refused Source line) = Refused Grammar (codes "woven: " ++ line)
of_woven due = due

abbrev pub cut_refusal : PlainPolicy → List ℕ → CutFault → Due
cut_refusal whole source cut.TooLong = over SourceBytes
cut_refusal whole source (cut.Read f) = of_woven (source_refusal source f)
cut_refusal whole source (cut.Descriptors f) = Refused Grammar (codes "woven: " ++ descriptor_line source whole f)
cut_refusal whole source cut.TooManyPoints = over Points

-- the refusal by the first fault of a woven text, which without its parts is this source
abbrev pub woven_refusal : PlainPolicy → List ℕ → WovenFault → Due
woven_refusal whole source (woven.Mark at) = Refused Grammar (codes "woven: mark " ++ decimal at)
woven_refusal whole source (woven.Table f) = table_refusal f
woven_refusal whole source (woven.Source f) = cut_refusal whole source f
woven_refusal whole source (woven.Misplaced n) = Refused Grammar (codes "woven: misplaced " ++ decimal n)
woven_refusal whole source woven.NoMemory = Refused Grammar (codes "memory")

abbrev pub IsWovenRefusal : PlainPolicy → (text : List ℕ) → Due → Type 0
IsWovenRefusal whole text due = (source : List ℕ) × (f : WovenFault) × IsFaultOver whole text source f × (f ≢ woven.NoMemory) × (due ≡ woven_refusal whole source f)

-- what is told of the first row that fails a condition: the name of its list, its number there and the condition's
abbrev pub part_name : Part → List ℕ
part_name InMems = codes "mems"
part_name InLive = codes "live"
part_name InTries = codes "tries"
part_name InAts = codes "ats"
part_name InOpened = codes "opened"
part_name InClosed = codes "closed"
part_name InInto = codes "into"
part_name InBack = codes "back"

abbrev pub told : TableFault → List ℕ
told f = part_name f.part ++ (codes " " ++ decimal f.row) ++ (codes " condition " ++ decimal f.condition) ++ (10 ∷ [])

-- That the text is no woven text, or what comes next for the source and the table that it is read as.
abbrev pub WithWoven : (List ℕ → File → Table → Due → Type 0) → (text : List ℕ) → PlainPolicy → Due → Type 0
WithWoven Next text whole due =
    IsWovenRefusal whole text due
    ⊎ ((source : List ℕ) × (file : File) × (t : Table) × ReadsWoven whole text source file t × Next source file t due)
