use Rattle.cw_rights.specs.Policies.{policy_of}
use Rattle.cw_table_text.proofs.SomeAnswer as answers
use Rattle.cw_table_text.proofs.laws.some_answer.Goals as goal

pub returns : goal.returns
returns c = record { some = answers.some_answer (policy_of c.args.policy.now) }
