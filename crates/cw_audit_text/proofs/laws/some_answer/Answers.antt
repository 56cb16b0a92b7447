use Rattle.cw_audit_text.proofs.SomeAnswer.{some_answer}
use Rattle.cw_audit_text.proofs.laws.some_answer.Goals as goal

pub returns : goal.returns
returns c = record { some = some_answer c.args.text.now }
