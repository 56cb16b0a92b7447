use Rattle.std.proofs.Common.{◌≡◌, length, take, map}
use Rattle.std.specs.List.{flat_map}
use Rattle.cw_audit_table.specs.Tables.{group_of}
use Rattle.cw_audit_text.specs.AuditText.{group_lines}
use Rattle.cw_audit_text.proofs.reading.lines_in.Given as goal

abbrev pub invariant-loop-group : goal.invariant-loop-group
invariant-loop-group l = l.lines ≡ length (flat_map group_lines (map group_of (take l.group-index l.groups)))
