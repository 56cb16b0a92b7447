use Rattle.std.proofs.Common.{map}
use Rattle.cw_rights.specs.Policies.{rule_of}
use Rattle.cw_policy.proofs.Whole.{are_few, are_many}
use Rattle.cw_policy.proofs.read.has_many_positions.Goals as goal

pub returns-in-Ok : goal.returns-in-Ok
returns-in-Ok c = are_few (map rule_of c.args.rules.now) c.in-Ok.ensures.few

pub returns-in-Err : goal.returns-in-Err
returns-in-Err c = are_many (map rule_of c.args.rules.now) c.in-Err.ensures.many
