use Rattle.cw_audit_text.proofs.OneAnswer.{one_answer}
use Rattle.cw_audit_text.proofs.laws.one_answer.Goals as goal

pub returns : goal.returns
returns c = record { one = one_answer c.args.text.now }
