use Rattle.std.proofs.Common.{arith}
use Rattle.std.proofs.lemmas.List.{length-map}
use Rattle.cw_rights.specs.Policies.{policy_of}
use Rattle.cw_certs.specs.Strategies.{row_of, strategy_of}
use Rattle.cw_stages.proofs.Spelling.{is_fault, rows_few}
use Rattle.cw_stages.proofs.strategies.read_strategy.Goals as goal

pub returns-in-Ok-clause-few : goal.returns-in-Ok-clause-few
returns-in-Ok-clause-few c =
    let few = rows_few (policy_of c.args.policy.now).format c.args.text.now (strategy_of c.in-Ok.strategy) c.in-Ok.ensures.spells in
    omega (arith, few, length-map c.in-Ok.strategy.rows.items row_of)

pub returns-in-Err-clause-stop : goal.returns-in-Err-clause-stop
returns-in-Err-clause-stop c = λ whole source due d.
    (c.in-Err.fault, is_fault (policy_of c.args.policy.now).format c.args.text.now c.in-Err.fault d.0 c.in-Err.ensures.fault, d.1)
