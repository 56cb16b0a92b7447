use Rattle.std.proofs.Common.{◌≡◌, ◌∙◌}
use Rattle.cw_audit_table.specs.Tables.{audit_of}
use Rattle.cw_audit_text.specs.AuditText.{audit_text}
use Rattle.cw_audit_text.proofs.OneAnswer.{again_same, again_memory}
use Rattle.cw_audit_text.proofs.laws.read_again.Goals as goal
use Rattle.cw_io.proofs.TwoPuts.{whole_taken}

pub returns-in-Ok-clause-same : goal.returns-in-Ok-clause-same
returns-in-Ok-clause-same c =
    let printed : c.bytes.result.now ≡ audit_text (audit_of c.args.table.now) = c.bytes.ensures ∙ whole_taken _ _ _ c.make-sink.ensures c.in-Ok.ensures.bytes in
    again_same c.bytes.result.now (audit_of c.args.table.now) c.read_audit.result printed c.requires.fits c.read_audit.ensures.spells

pub returns-in-Ok-clause-memory : goal.returns-in-Ok-clause-memory
returns-in-Ok-clause-memory c =
    let printed : c.bytes.result.now ≡ audit_text (audit_of c.args.table.now) = c.bytes.ensures ∙ whole_taken _ _ _ c.make-sink.ensures c.in-Ok.ensures.bytes in
    again_memory c.bytes.result.now (audit_of c.args.table.now) c.read_audit.result printed c.requires.fits c.read_audit.ensures.fault
