use Rattle.std.proofs.Common.{◌≡◌, ◌++◌, map, length}
use Rattle.std.specs.List.{All}
use Rattle.cw_audit_table.specs.Tables.{row_of}
use Rattle.cw_audit_text.specs.TextLines.{FitsLine}
use Rattle.cw_audit_text.specs.AuditText.{row_line, whole_lines}
use Rattle.cw_audit_text.proofs.reading.read_rows.Given as goal

abbrev pub invariant-rows : goal.invariant-rows
invariant-rows l = record {
  text : l.text ≡ whole_lines (map row_line (map row_of l.rows.items)) ++ l.rest;
  fits : All FitsLine (map row_line (map row_of l.rows.items));
}

abbrev pub decreases-rows : goal.decreases-rows
decreases-rows l = length l.rest
