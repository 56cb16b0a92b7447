use Rattle.cw_rights.specs.Policies.{policy_of}
use Rattle.cw_table_text.proofs.OneAnswer.{one_table, one_fault, not_both}
use Rattle.cw_table_text.proofs.PlainLimits.{limits_free, small_format}
use Rattle.cw_table_text.proofs.laws.one_answer.Goals as goal

pub returns : goal.returns
returns c =
    let policy = policy_of c.args.policy.now in
    let small = small_format policy c.requires.valid in
    let limits = limits_free policy c.requires.valid in
    record {
      table = λ text t u p q. one_table policy text t u small limits p q;
      fault = λ text f g p q. one_fault policy text f g small limits p q;
      apart = λ text t f p q. not_both policy text t f small limits p q;
    }
