use Rattle.std.proofs.Common.{refl}
use Rattle.cw_rights.specs.Policies.{policy_of}
use Rattle.cw_table_text.proofs.OneAnswer.{read_back}
use Rattle.cw_table_text.proofs.PlainLimits.{limits_free, small_format}
use Rattle.cw_table_text.proofs.laws.printed_is_read_back.Goals as goal

pub returns : goal.returns
returns c =
    let policy = policy_of c.args.policy.now in
    record {
      printed = λ t p. record { table = p; spelled = refl };
      answer = λ text t answer p q. read_back policy text t answer (small_format policy c.requires.valid) (limits_free policy c.requires.valid) p q;
    }
