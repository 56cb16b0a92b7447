use Rattle.std.proofs.Common.{◌≡◌, ◌++◌, take}
use Rattle.cw_io.specs.Written.{Follows}
use Rattle.cw_audit_table.specs.declared.table.Group.{Group}
use Rattle.cw_audit_table.specs.Tables.{group_of}
use Rattle.cw_audit_text.specs.AuditText.{group_lines}
use Rattle.cw_audit_text.proofs.Puts.{Lines}
use Rattle.cw_audit_text.proofs.printing.put_groups.Given as goal

abbrev pub invariant-loop-group : goal.invariant-loop-group
invariant-loop-group g l = record {
  text : l.writer.text ≡ l.initial.writer.text ++ Lines (λ (x : Group). group_lines (group_of x)) (take l.group-index l.groups);
  begun : l.writer.begun ≡ l.initial.writer.begun;
  follows : Follows g.S.Sink.taken g.S.Sink.faults g.S.Sink.refused l.writer l.out;
}
