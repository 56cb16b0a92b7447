use Rattle.cw_policy.proofs.Rights.{within_both}
use Rattle.cw_policy.proofs.parts.with_rights.Goals as goal

pub returns-in-Some-clause-within : goal.returns-in-Some-clause-within
returns-in-Some-clause-within c = within_both c.args.rights c.in-Some.more.0 c.requires.within c.in-Some.ensures.within
