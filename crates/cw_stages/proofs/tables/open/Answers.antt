use Rattle.std.proofs.Common.{[]}
use Rattle.cw_rights.specs.Policies.{policy_of}
use Rattle.cw_stages.proofs.Checks.{unopened}
use Rattle.cw_stages.proofs.tables.open.Goals as goal

pub returns-in-Err-clause-stop : goal.returns-in-Err-clause-stop
returns-in-Err-clause-stop c = λ due d. ([], c.in-Err.fault, unopened (policy_of c.args.policy.now) c.args.text.now c.in-Err.fault c.in-Err.ensures.fault, d.0, d.1)
