use Rattle.std.proofs.Common.{◌≡◌, ℕ, ◌++◌, ◌∷◌, [], take}
use Rattle.cw_core.specs.declared.ids.PosId.{PosId}
use Rattle.cw_core.specs.declared.ids.StateId.{StateId}
use Rattle.cw_io.specs.Written.{Follows}
use Rattle.cw_audit_table.specs.Tables.{row_of}
use Rattle.cw_audit_text.specs.AuditText.{row_line}
use Rattle.cw_audit_text.proofs.Puts.{Lines}
use Rattle.cw_audit_text.proofs.printing.put_rows.Given as goal

abbrev pub invariant-loop-row : goal.invariant-loop-row
invariant-loop-row g l = record {
  text : l.writer.text ≡ l.initial.writer.text ++ Lines (λ (r : PosId × StateId × ℕ). row_line (row_of r) ∷ []) (take l.row-index l.rows);
  begun : l.writer.begun ≡ l.initial.writer.begun;
  follows : Follows g.S.Sink.taken g.S.Sink.faults g.S.Sink.refused l.writer l.out;
}
