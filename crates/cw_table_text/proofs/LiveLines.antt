-- The line of a live row.
use Rattle.std.proofs.Common.{◌≡◌, ◌≢◌, ℕ, true, List, ◌++◌, length}
use Rattle.std.specs.Prelude.{codes}
use Rattle.cw_core.specs.declared.ids.PosId.{PosId}
use Rattle.cw_core.specs.declared.ids.MemId.{MemId}
use Rattle.cw_certs.specs.Tables.{Table}
use Rattle.cw_text.specs.Lines.{line}
use Rattle.cw_text.specs.TableText.{live_fields}
use Rattle.cw_table_text.specs.declared.row.Row.TheVariants.{Live}
use Rattle.cw_table_text.specs.Rows.{called, row_text, rows_of}
use Rattle.cw_table_text.specs.Grammar.{FitsLive}
use Rattle.cw_table_text.specs.Working.{is_next, IsRowLine}

pub is_row_line : (format : ℕ) (t : Table) (text rest : List ℕ) (pair : PosId × MemId) → FitsLive pair → text ≡ line (called (codes "CW_LIVE") (live_fields pair)) ++ rest
    → is_next t (Live pair) ≡ true → length (rows_of t) ≢ 65536 → IsRowLine format t text (Live pair) rest
unfolding row_text
is_row_line format t text rest pair fits is next few = record { is = is; fits = fits; next = next; few = few }
