-- The rows of a table in the order of its text, and how each is spelled.
use Rattle.std.specs.Prelude.{ℕ, ◌+◌, List, [], ◌∷◌, ◌++◌, map, codes}
use Rattle.std.specs.Fmt.{decimal}
use Rattle.cw_core.specs.declared.ids.StateId.{StateId}
use Rattle.cw_certs.specs.Tables.{Table}
use Rattle.cw_text.specs.Lines.{joined, set_text}
use Rattle.cw_text.specs.TableText.{live_fields, try_fields, after_fields, opened_fields, into_fields, back_fields}
use Rattle.cw_table_text.specs.declared.row.Row.{Row}
use Rattle.cw_table_text.specs.declared.row.Row.TheVariants.{Memory, Live, Try, At, Opened, Closed, Into, Back}

-- memories, numbered from n on
abbrev pub memories : ℕ → List (StateId × ℕ) → List Row
memories n [] = []
memories n (m ∷ ms) = Memory n m ∷ memories (n + 1) ms

-- The rows from one kind on.
abbrev pub from_closed : Table → List Row
from_closed t = map Closed t.closed ++ (map Into t.into ++ map Back t.back)

abbrev pub from_tries : Table → List Row
from_tries t = map Try t.tries ++ (map At t.ats ++ (map Opened t.opened ++ from_closed t))

-- All rows: those of one kind stand together, the kinds in this order; memories are numbered from 0.
unfoldable pub rows_of : Table → List Row
rows_of t = memories 0 t.mems ++ (map Live t.live ++ from_tries t)

-- The name with which a row's line begins. CW_AT has the memory after a label, CW_CLOSED that after a close.
abbrev pub name_of : Row → List ℕ
name_of (Memory n m) = codes "CW_MEM"
name_of (Live p) = codes "CW_LIVE"
name_of (Try r) = codes "CW_TRY"
name_of (At r) = codes "CW_AT"
name_of (Opened r) = codes "CW_OPENED"
name_of (Closed r) = codes "CW_CLOSED"
name_of (Into r) = codes "CW_INTO"
name_of (Back r) = codes "CW_BACK"

-- a memory's number, its state and its promise, which is spelled as a set of the format
abbrev pub memory_fields : (format : ℕ) → ℕ × (StateId × ℕ) → List (List ℕ)
memory_fields format m = decimal m.0 ∷ decimal m.1.0.0 ∷ set_text format m.1.1 ∷ []

-- its fields
abbrev pub fields_of : (format : ℕ) → Row → List (List ℕ)
fields_of format (Memory n m) = memory_fields format (n, m)
fields_of format (Live p) = live_fields p
fields_of format (Try r) = try_fields r
fields_of format (At r) = after_fields r
fields_of format (Opened r) = opened_fields r
fields_of format (Closed r) = after_fields r
fields_of format (Into r) = into_fields r
fields_of format (Back r) = back_fields r

-- a name with its fields: `NAME(A,B)`
abbrev pub called : List ℕ → List (List ℕ) → List ℕ
called name fields = name ++ (codes "(" ++ (joined 44 fields ++ codes ")"))

-- a row's line, without its LF
unfoldable pub row_text : (format : ℕ) → Row → List ℕ
row_text format row = called (name_of row) (fields_of format row)
