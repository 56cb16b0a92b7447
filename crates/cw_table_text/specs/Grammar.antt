-- Which texts are those of a table, and which line of any other text is at fault.
use Rattle.std.specs.Prelude.{◌≡◌, ◌≢◌, ℕ, ◌+◌, ◌^◌, ◌<◌, ◌≤◌, ◌⊎◌, Option, IfSome, Result, Ok, Err, List, [], ◌∷◌, ◌++◌, map, length}
use Rattle.std.specs.List.{AllByRecursion}
use Rattle.cw_core.specs.Quantities.{limit_of}
use Rattle.cw_core.specs.declared.quantity.Quantity.TheVariants.{Rows}
use Rattle.cw_rights.specs.Policies.{PlainPolicy}
use Rattle.cw_core.specs.declared.ids.StateId.{StateId}
use Rattle.cw_core.specs.declared.ids.PosId.{PosId}
use Rattle.cw_core.specs.declared.ids.MemId.{MemId}
use Rattle.cw_certs.specs.declared.rows.TryRow.{TryRow}
use Rattle.cw_certs.specs.declared.rows.AtRow.{AtRow}
use Rattle.cw_certs.specs.declared.rows.OpenRow.{OpenRow}
use Rattle.cw_certs.specs.declared.rows.IntoRow.{IntoRow}
use Rattle.cw_certs.specs.declared.rows.BackRow.{BackRow}
use Rattle.cw_certs.specs.Tables.{Table}
use Rattle.cw_certs.specs.Ascending.{Ascends}
use Rattle.cw_text.specs.Lines.{line, IsFree, IsSetIn}
use Rattle.cw_text.specs.declared.fault.TextFault.{TextFault}
use Rattle.cw_text.specs.declared.fault.TextFault.TheVariants.{Line, Order, Limit, NoMemory}
use Rattle.cw_table_text.specs.declared.row.Row.{Row}
use Rattle.cw_table_text.specs.declared.row.Row.TheVariants.{Memory, Live, Try, At, Opened, Closed, Into, Back}
use Rattle.cw_table_text.specs.Rows.{rows_of, row_text}
use Rattle.cw_table_text.specs.TablesText.{head_lines, tables_lines, tables_text, text_of, done}

-- Numbers that their fields can hold: 32 bits, a state 16, a stage 8.
abbrev pub IsMem : MemId → Type 0
IsMem m = m.0 < 2 ^ 32

abbrev pub IsAnswer : Option MemId → Type 0
IsAnswer answer = IfSome answer IsMem

-- A row's numbers fit their fields; and a promise has no member of 512 or more, in format 2 of 1,024 or more.
abbrev pub FitsMemory : (format : ℕ) → ℕ × (StateId × ℕ) → Type 0
FitsMemory format m = (m.0 < 2 ^ 32) × (m.1.0.0 < 2 ^ 16) × IsSetIn format m.1.1

abbrev pub FitsLive : PosId × MemId → Type 0
FitsLive p = (p.0.0 < 2 ^ 32) × IsMem p.1

abbrev pub FitsTry : TryRow → Type 0
FitsTry r = (r.seam.0 < 2 ^ 32) × (r.stage < 2 ^ 8) × IsMem r.mem × IsAnswer r.granted × IsAnswer r.refused

abbrev pub FitsAfter : AtRow → Type 0
FitsAfter r = (r.seam.0 < 2 ^ 32) × IsMem r.mem × IsMem r.after

abbrev pub FitsOpened : OpenRow → Type 0
FitsOpened r = (r.seam.0 < 2 ^ 32) × IsMem r.mem × IsMem r.opened × IsMem r.failed

abbrev pub FitsInto : IntoRow → Type 0
FitsInto r = (r.seam.0 < 2 ^ 32) × IsMem r.mem × IsMem r.callee

abbrev pub FitsBack : BackRow → Type 0
FitsBack r = (r.seam.0 < 2 ^ 32) × IsMem r.mem × (r.exit.0 < 2 ^ 16) × IsMem r.after

abbrev pub Fits : (format : ℕ) → Row → Type 0
Fits format (Memory n m) = FitsMemory format (n, m)
Fits format (Live p) = FitsLive p
Fits format (Try r) = FitsTry r
Fits format (At r) = FitsAfter r
Fits format (Opened r) = FitsOpened r
Fits format (Closed r) = FitsAfter r
Fits format (Into r) = FitsInto r
Fits format (Back r) = FitsBack r

-- A table whose lists ascend and whose numbers fit their fields, however many rows it has.
pub record IsOrdered (format : ℕ) (t : Table) : Type 0 where
  pub states : t.states < 2 ^ 16
  pub start : IsMem t.start
  pub rows : AllByRecursion (Fits format) (rows_of t)
  pub ascend : Ascends t

-- the same with at most 65,536 rows, all kinds together
pub record IsTable (format : ℕ) (t : Table) : Type 0 where
  pub ordered : IsOrdered format t
  pub few : length (rows_of t) ≤ limit_of Rows

-- the text is that of the table, and the table has a text
pub record Spells (policy : PlainPolicy) (text : List ℕ) (t : Table) : Type 0 where
  pub table : IsTable policy.format t
  pub spelled : text ≡ tables_text policy t

-- the lines are the first of the text of some table: with any number of rows, and with at most 65,536
abbrev pub BeginsAny : PlainPolicy → List (List ℕ) → Type 0
BeginsAny policy lines = (t : Table) × (rest : List (List ℕ)) × IsOrdered policy.format t × (tables_lines policy t ≡ lines ++ rest)

abbrev pub Begins : PlainPolicy → List (List ℕ) → Type 0
Begins policy lines = (t : Table) × (rest : List (List ℕ)) × IsTable policy.format t × (tables_lines policy t ≡ lines ++ rest)

-- the lines of the head, and then those of rows
abbrev pub HasRows : PlainPolicy → List (List ℕ) → List Row → Type 0
HasRows policy lines rows = (states : ℕ) × (start : MemId) × (lines ≡ head_lines policy states start ++ map (row_text policy.format) rows)

-- A line is of the form that is due after these: the next of the head; and where rows may come CW_DONE or a row, of
-- whatever kind, number and key.
abbrev pub IsHead : PlainPolicy → List (List ℕ) → List ℕ → Type 0
IsHead policy before l = (states : ℕ) × (start : MemId) × (rest : List (List ℕ)) × (states < 2 ^ 16) × IsMem start × (head_lines policy states start ≡ before ++ l ∷ rest)

abbrev pub IsRow : PlainPolicy → List (List ℕ) → List ℕ → Row → Type 0
IsRow policy before l row = (rows : List Row) × HasRows policy before rows × Fits policy.format row × (l ≡ row_text policy.format row)

abbrev pub IsDone : PlainPolicy → List (List ℕ) → List ℕ → Type 0
IsDone policy before l = (rows : List Row) × HasRows policy before rows × (l ≡ done)

abbrev pub IsDue : PlainPolicy → List (List ℕ) → List ℕ → Type 0
IsDue policy before l = IsHead policy before l ⊎ (IsDone policy before l ⊎ ((row : Row) × IsRow policy before l row))

-- a text goes on with this line
abbrev pub GoesOn : List ℕ → List ℕ → Type 0
GoesOn text l = (rest : List ℕ) × IsFree 10 l × (text ≡ line l ++ rest)

-- the lines are all those of some table
abbrev pub IsWhole : PlainPolicy → List (List ℕ) → Type 0
IsWhole policy lines = (t : Table) × IsTable policy.format t × (lines ≡ tables_lines policy t)

-- What is wrong behind these lines, where the rest of the text begins. Line: no line of the form that is due comes
-- next, so it is missing, misspelled or behind the last; and the text doesn't end here as it should. Order: a row
-- comes next, and with it the lines begin no table's text, however long. Limit: with the next line they begin only
-- such texts as have more than 65,536 rows. Lines are numbered from 1.
abbrev pub IsWrong : PlainPolicy → List (List ℕ) → List ℕ → TextFault → Type 0
IsWrong policy before rest (Line n) = (n ≡ length before + 1) × ((l : List ℕ) → GoesOn rest l → ¬ (IsDue policy before l)) × (IsWhole policy before → rest ≢ [])
IsWrong policy before rest (Order n) = (n ≡ length before + 1) × (l : List ℕ) × (row : Row) × GoesOn rest l × IsRow policy before l row × ¬ (BeginsAny policy (before ++ l ∷ []))
IsWrong policy before rest (Limit n) = (n ≡ length before + 1) × (l : List ℕ) × GoesOn rest l × BeginsAny policy (before ++ l ∷ []) × ¬ (Begins policy (before ++ l ∷ []))
IsWrong policy before rest NoMemory = ⊥

-- The first line at fault, with why: the lines before it begin the text of a table.
pub record IsFault (policy : PlainPolicy) (text : List ℕ) (fault : TextFault) : Type 0 where
  pub before : List (List ℕ)
  pub rest : List ℕ
  pub cut : text ≡ text_of before ++ rest
  pub begins : Begins policy before
  pub wrong : IsWrong policy before rest fault

-- what a reader answers: the table whose text it is, or its fault, unless memory ran out
abbrev pub Answers : PlainPolicy → List ℕ → Result Table TextFault → Type 0
Answers policy text (Ok t) = Spells policy text t
Answers policy text (Err (Line n)) = IsFault policy text (Line n)
Answers policy text (Err (Order n)) = IsFault policy text (Order n)
Answers policy text (Err (Limit n)) = IsFault policy text (Limit n)
Answers policy text (Err NoMemory) = Unit {0}
