-- Working definitions, which only the contracts of the reader's parts and proofs use: a table in the making.
use Rattle.std.specs.Prelude.{◌≡◌, ◌≢◌, ℕ, ◌-◌, ◌==◌, ◌&&◌, Bool, true, false, Option, None, Some, IfSome, IfNone, codes, List, [], ◌∷◌, ◌++◌, map, length, slice_get, Result, Ok, Err, ◌+◌, ◌^◌, ◌<◌, ◌≤◌}
use Rattle.std.specs.declared.cmp.Ordering.{Ordering}
use Rattle.std.specs.Ordering.{is_lt}
use Rattle.cw_core.specs.Quantities.{limit_of}
use Rattle.cw_core.specs.declared.quantity.Quantity.TheVariants.{Rows}
use Rattle.cw_core.specs.declared.ids.MemId.{MemId}
use Rattle.cw_certs.specs.Ascending.{mem_cmp, live_cmp, try_cmp, at_cmp, open_cmp, into_cmp, back_cmp}
use Rattle.cw_certs.specs.Tables.{Table, table_with}
use Rattle.std.specs.List.{AllByRecursion}
use Rattle.std.specs.Fmt.{decimal}
use Rattle.cw_rights.specs.Policies.{PlainPolicy}
use Rattle.cw_certs.specs.Ascending.{Ascends}
use Rattle.cw_text.specs.Lines.{line, IsFree}
use Rattle.cw_text.specs.declared.fault.TextFault.{TextFault}
use Rattle.cw_text.specs.declared.fault.TextFault.TheVariants.{Line, Order, Limit, NoMemory}
use Rattle.cw_table_text.specs.Grammar.{Fits, IsMem, GoesOn, Answers}
use Rattle.cw_table_text.specs.Rows.{name_of, fields_of, row_text, rows_of}
use Rattle.cw_table_text.specs.TablesText.{head_lines, text_of, done}
use Rattle.cw_table_text.specs.declared.draft.Draft.{Draft}
use Rattle.cw_table_text.specs.declared.line.RowKind.{RowKind}
use Rattle.cw_table_text.specs.declared.line.RowKind.TheVariants as kind
use Rattle.cw_table_text.specs.declared.rows.Next.{Next}
use Rattle.cw_table_text.specs.declared.rows.Next.TheVariants.{Done, Row as ARow}
use Rattle.cw_table_text.specs.declared.row.Row.{Row}
use Rattle.cw_table_text.specs.declared.row.Row.TheVariants.{Memory, Live, Try, At, Opened, Closed, Into, Back}

-- the table that a draft is so far
abbrev pub table_of : Draft → Table
table_of d = table_with d.states d.start d.mems.items d.live.items d.tries.items d.ats.items d.opened.items d.closed.items d.into.items d.back.items

abbrev pub is_nil : {A : Type 0} → List A → Bool
is_nil xs = length xs == 0

-- no row of these kinds
abbrev pub none_from_into : Table → Bool
none_from_into t = is_nil t.into && is_nil t.back

abbrev pub none_from_opened : Table → Bool
none_from_opened t = is_nil t.opened && (is_nil t.closed && none_from_into t)

abbrev pub none_from_tries : Table → Bool
none_from_tries t = is_nil t.tries && (is_nil t.ats && none_from_opened t)

-- above the last element, where there is one
abbrev pub is_above_last : {A : Type 0} → (A → A → Ordering) → Option A → A → Bool
is_above_last cmp None x = true
is_above_last cmp (Some last) x = is_lt (cmp last x)

abbrev pub is_above : {A : Type 0} → (A → A → Ordering) → List A → A → Bool
is_above cmp xs x = is_above_last cmp (slice_get xs (length xs - 1)) x

-- whether the row may stand behind those of the table
abbrev pub is_next : Table → Row → Bool
is_next t (Memory n m) = n == length t.mems && (is_above mem_cmp t.mems m && (is_nil t.live && none_from_tries t))
is_next t (Live p) = is_above live_cmp t.live p && none_from_tries t
is_next t (Try r) = is_above try_cmp t.tries r && (is_nil t.ats && none_from_opened t)
is_next t (At r) = is_above at_cmp t.ats r && none_from_opened t
is_next t (Opened r) = is_above open_cmp t.opened r && (is_nil t.closed && none_from_into t)
is_next t (Closed r) = is_above at_cmp t.closed r && none_from_into t
is_next t (Into r) = is_above into_cmp t.into r && is_nil t.back
is_next t (Back r) = is_above back_cmp t.back r

-- the table with the row at the end of its list
abbrev pub with_row : Table → Row → Table
with_row t (Memory n m) = record t { mems = t.mems ++ m ∷ [] }
with_row t (Live p) = record t { live = t.live ++ p ∷ [] }
with_row t (Try r) = record t { tries = t.tries ++ r ∷ [] }
with_row t (At r) = record t { ats = t.ats ++ r ∷ [] }
with_row t (Opened r) = record t { opened = t.opened ++ r ∷ [] }
with_row t (Closed r) = record t { closed = t.closed ++ r ∷ [] }
with_row t (Into r) = record t { into = t.into ++ r ∷ [] }
with_row t (Back r) = record t { back = t.back ++ r ∷ [] }

-- the value whose fields stand first among these, with what is left; none where no value's do that fits
pub record TakesRow {A : Type 0} (Fitting : A → Type 0) (fields : A → List (List ℕ)) (old new : List (List ℕ)) (result : Option A) : Type 0 where
  pub some : IfSome result (λ value. Fitting value × (old ≡ fields value ++ new))
  pub none : IfNone result ((value : A) (rest : List (List ℕ)) → Fitting value → old ≢ fields value ++ rest)

-- the same of a row that begins with this name
pub record TakesNamed (format : ℕ) (name : List ℕ) (old new : List (List ℕ)) (result : Option Row) : Type 0 where
  pub some : IfSome result (λ row. Fits format row × (name ≡ name_of row) × (old ≡ fields_of format row ++ new))
  pub none : IfNone result ((row : Row) (rest : List (List ℕ)) → Fits format row → name ≡ name_of row → old ≢ fields_of format row ++ rest)

-- rows by their kinds: the name that each begins with
abbrev pub kind_name : RowKind → List ℕ
kind_name kind.Memory = codes "CW_MEM"
kind_name kind.Live = codes "CW_LIVE"
kind_name kind.Try = codes "CW_TRY"
kind_name kind.At = codes "CW_AT"
kind_name kind.Opened = codes "CW_OPENED"
kind_name kind.Closed = codes "CW_CLOSED"
kind_name kind.Into = codes "CW_INTO"
kind_name kind.Back = codes "CW_BACK"

abbrev pub row_names : List (List ℕ × RowKind)
row_names =
    (codes "CW_MEM", kind.Memory) ∷ (codes "CW_LIVE", kind.Live) ∷ (codes "CW_TRY", kind.Try) ∷ (codes "CW_AT", kind.At)
    ∷ (codes "CW_OPENED", kind.Opened) ∷ (codes "CW_CLOSED", kind.Closed) ∷ (codes "CW_INTO", kind.Into) ∷ (codes "CW_BACK", kind.Back) ∷ []

-- a name before `(`, and what stands from there to a `)` at the end
pub record IsCalled (line : List ℕ) (result : Option (List ℕ × List ℕ)) : Type 0 where
  pub some : IfSome result (λ parts. IsFree 40 parts.0 × (line ≡ parts.0 ++ (40 ∷ (parts.1 ++ 41 ∷ []))))
  pub none : IfNone result ((name inner : List ℕ) → IsFree 40 name → line ≢ name ++ (40 ∷ (inner ++ 41 ∷ [])))

-- how many states, and the start
abbrev pub FitsHead : ℕ × MemId → Type 0
FitsHead p = (p.0 < 2 ^ 16) × IsMem p.1

-- the fields of the table's own line
abbrev pub head_fields : (format : ℕ) → ℕ × MemId → List (List ℕ)
head_fields format p = decimal format ∷ decimal p.0 ∷ decimal p.1.0 ∷ []

-- the lines of rows, without their LF
abbrev pub row_lines : (format : ℕ) → List Row → List (List ℕ)
row_lines format rows = map (row_text format) rows

-- the rows so far: each fits, the lists ascend, and they are at most 65,536
pub record IsGood (format : ℕ) (t : Table) : Type 0 where
  pub fits : AllByRecursion (Fits format) (rows_of t)
  pub ascend : Ascends t
  pub few : length (rows_of t) ≤ limit_of Rows

-- what is wrong behind the rows so far
abbrev pub IsWrongRow : (format : ℕ) → Table → List ℕ → TextFault → Type 0
IsWrongRow format t rest (Line n) = (n ≡ length (rows_of t) + 4) × ((l : List ℕ) → GoesOn rest l → (l ≢ done) × ((row : Row) → Fits format row → row_text format row ≢ l))
IsWrongRow format t rest (Order n) = (n ≡ length (rows_of t) + 4) × (l : List ℕ) × (row : Row) × GoesOn rest l × Fits format row × (row_text format row ≡ l) × (is_next t row ≡ false)
IsWrongRow format t rest (Limit n) = (n ≡ length (rows_of t) + 4) × (l : List ℕ) × (row : Row) × GoesOn rest l × Fits format
    row × (row_text format row ≡ l) × (is_next t row ≡ true) × (length (rows_of t) ≡ limit_of Rows)
IsWrongRow format t rest NoMemory = Unit {0}

-- the line that comes next: CW_DONE, a row that is the next, or what is wrong
abbrev pub IsDoneLine : List ℕ → List ℕ → Type 0
IsDoneLine rest after = rest ≡ line done ++ after

pub record IsRowLine (format : ℕ) (t : Table) (rest : List ℕ) (row : Row) (after : List ℕ) : Type 0 where
  pub is : rest ≡ line (row_text format row) ++ after
  pub fits : Fits format row
  pub next : is_next t row ≡ true
  pub few : length (rows_of t) ≢ limit_of Rows

abbrev pub IsNextLine : (format : ℕ) → Table → List ℕ → Result Next TextFault → Type 0
IsNextLine format t rest (Ok (Done after)) = IsDoneLine rest after.now
IsNextLine format t rest (Ok (ARow row after)) = IsRowLine format t rest row after.now
IsNextLine format t rest (Err fault) = IsWrongRow format t rest fault

-- what the rows of a text are, up to CW_DONE and its LF
pub record AreRead (format : ℕ) (text : List ℕ) (old new : Table) (count : ℕ) (rest : List ℕ) : Type 0 where
  pub is : text ≡ text_of (row_lines format (rows_of new)) ++ (line done ++ rest)
  pub good : IsGood format new
  pub count_is : count ≡ length (rows_of new)
  pub states : new.states ≡ old.states
  pub start : new.start ≡ old.start

pub record AreWrong (format : ℕ) (text : List ℕ) (old new : Table) (rest : List ℕ) (fault : TextFault) : Type 0 where
  pub is : text ≡ text_of (row_lines format (rows_of new)) ++ rest
  pub good : IsGood format new
  pub states : new.states ≡ old.states
  pub start : new.start ≡ old.start
  pub wrong : IsWrongRow format new rest fault

abbrev pub RowsRead : (format : ℕ) → List ℕ → Table → Table → Result (ℕ × List ℕ) TextFault → Type 0
RowsRead format text old new (Ok p) = AreRead format text old new p.0 p.1
RowsRead format text old new (Err (Line n)) = (rest : List ℕ) × AreWrong format text old new rest (Line n)
RowsRead format text old new (Err (Order n)) = (rest : List ℕ) × AreWrong format text old new rest (Order n)
RowsRead format text old new (Err (Limit n)) = (rest : List ℕ) × AreWrong format text old new rest (Limit n)
RowsRead format text old new (Err NoMemory) = Unit {0}

-- a result whose value is seen by a function
abbrev pub seen : {X Y : Type 0} → (X → Y) → Result X TextFault → Result Y TextFault
seen view (Ok x) = Ok (view x)
seen view (Err fault) = Err fault

-- a table without rows
pub record IsEmpty (t : Table) : Type 0 where
  pub rows : rows_of t ≡ []
  pub ascend : Ascends t

-- what the lines before the rows are
abbrev pub HeadRead : PlainPolicy → List ℕ → Result (Table × List ℕ) TextFault → Type 0
HeadRead policy text (Ok p) = FitsHead (p.0.states, p.0.start) × IsEmpty p.0 × (text ≡ text_of (head_lines policy p.0.states p.0.start) ++ p.1)
HeadRead policy text (Err fault) = Answers policy text (Err fault)
