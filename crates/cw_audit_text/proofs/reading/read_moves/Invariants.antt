use Rattle.std.proofs.Common.{◌≡◌, ◌++◌, map, length}
use Rattle.std.specs.List.{All}
use Rattle.cw_audit_text.specs.declared.text_line.TextLine.TheVariants.{Go}
use Rattle.cw_audit_text.specs.TextLines.{FitsLine}
use Rattle.cw_audit_text.specs.AuditText.{whole_lines}
use Rattle.cw_audit_text.proofs.reading.read_moves.Given as goal

abbrev pub invariant-moves : goal.invariant-moves
invariant-moves l = record {
  text : l.text ≡ whole_lines (map Go l.moves.items) ++ l.rest;
  fits : All FitsLine (map Go l.moves.items);
}

abbrev pub decreases-moves : goal.decreases-moves
decreases-moves l = length l.rest
