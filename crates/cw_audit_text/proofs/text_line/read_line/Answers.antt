use Rattle.cw_audit_text.proofs.Lines.{from_fields}
use Rattle.cw_audit_text.proofs.text_line.read_line.Goals as goal

pub returns : goal.returns
returns c = from_fields c.args.line.now c.of-fields.result c.take_line.result c.of-fields.ensures.fields c.take_line.ensures
