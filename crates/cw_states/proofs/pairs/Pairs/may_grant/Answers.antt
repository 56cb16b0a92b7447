use Rattle.cw_rights.specs.Policies.{policy_of}
use Rattle.cw_states.proofs.Narrow.{below_eight}
use Rattle.cw_states.proofs.pairs.Pairs.may_grant.Goals as goal

pub may_grant-requires : goal.may_grant-requires
may_grant-requires c = below_eight (policy_of c.args.self.now.policy) c.args.prim c.fact_is_narrow.ensures c.requires.primitive
