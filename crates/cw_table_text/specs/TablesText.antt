-- The text of a table: the lines of a woven text's prologue, but for its first and its last.
use Rattle.std.specs.Prelude.{ℕ, List, [], ◌∷◌, ◌++◌, map, codes}
use Rattle.std.specs.Fmt.{decimal}
use Rattle.std.specs.List.{flat_map}
use Rattle.cw_rights.specs.Policies.{PlainPolicy}
use Rattle.cw_core.specs.declared.ids.MemId.{MemId}
use Rattle.cw_certs.specs.Tables.{Table}
use Rattle.cw_text.specs.Lines.{line}
use Rattle.cw_text.specs.RowLines.{numbered}
use Rattle.cw_text.specs.LimitsText.{limit_text}
use Rattle.cw_table_text.specs.Rows.{rows_of, row_text, called}

abbrev pub header : List ℕ
header = codes "#include \"capweave.h\""

-- the line of a policy's limits, without its LF
unfoldable pub limits_text : PlainPolicy → List ℕ
limits_text policy = codes "#define CW_LIMITS(X)" ++ numbered (limit_text policy) policy.limits

-- the format's version, how many states the policy has for the source, and the memory with which `main` begins
unfoldable pub table_text : (format states : ℕ) → MemId → List ℕ
table_text format states start = called (codes "CW_TABLE") (decimal format ∷ decimal states ∷ decimal start.0 ∷ [])

-- the lines before the rows
abbrev pub head_lines : PlainPolicy → (states : ℕ) → MemId → List (List ℕ)
head_lines policy states start = header ∷ limits_text policy ∷ table_text policy.format states start ∷ []

abbrev pub done : List ℕ
done = codes "CW_DONE"

-- the lines of a table, each without its LF
abbrev pub tables_lines : PlainPolicy → Table → List (List ℕ)
tables_lines policy t = head_lines policy t.states t.start ++ (map (row_text policy.format) (rows_of t) ++ done ∷ [])

-- lines as a text: each ends with LF
abbrev pub text_of : List (List ℕ) → List ℕ
text_of lines = flat_map line lines

unfoldable pub tables_text : PlainPolicy → Table → List ℕ
tables_text policy t = text_of (tables_lines policy t)
