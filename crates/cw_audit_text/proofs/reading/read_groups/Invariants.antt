use Rattle.std.proofs.Common.{◌≡◌, ◌++◌, map, length}
use Rattle.std.specs.List.{flat_map, All}
use Rattle.cw_audit_table.specs.Tables.{group_of}
use Rattle.cw_audit_text.specs.TextLines.{FitsLine}
use Rattle.cw_audit_text.specs.AuditText.{group_lines, whole_lines}
use Rattle.cw_audit_text.specs.Reading.{StopsAt}
use Rattle.cw_audit_text.proofs.reading.read_groups.Given as goal

abbrev pub invariant-groups : goal.invariant-groups
invariant-groups l = record {
  text : l.text ≡ whole_lines (flat_map group_lines (map group_of l.groups.items)) ++ l.rest;
  fits : All FitsLine (flat_map group_lines (map group_of l.groups.items));
  stops : StopsAt l.groups.items l.text l.rest;
}

abbrev pub decreases-groups : goal.decreases-groups
decreases-groups l = length l.rest
