use Rattle.cw_rights.specs.Policies.{policy_of}
use Rattle.cw_woven.proofs.Opening.{is_fault}
use Rattle.cw_woven.proofs.reading.is_woven.Goals as goal

pub returns-in-Err-clause-fault : goal.returns-in-Err-clause-fault
returns-in-Err-clause-fault c = is_fault (policy_of c.args.policy.now) c.args.remainder.now.text.now c.args.remainder.now.source.items c.in-Err.fault c.in-Err.ensures.fault
