use Rattle.cw_audit_text.proofs.Lines.{no_kind}
use Rattle.cw_audit_text.proofs.text_line.take_line.Goals as goal

pub returns-in_default-kind_of : goal.returns-in_default-kind_of
returns-in_default-kind_of c = no_kind c.args.fields.now c.in-Some.field.now c.take.new.self c.in-Some.ensures.some c.in_default-kind_of.ensures
