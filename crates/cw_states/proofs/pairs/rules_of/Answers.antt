use Rattle.std.proofs.Common.{◌<◌, ◌+◌, arith}
use Rattle.cw_rights.specs.Policies.{policy_of}
use Rattle.cw_rights.specs.Trees.{count}
use Rattle.cw_dfa.specs.Positions.{bad_of}
use Rattle.cw_states.proofs.Narrow.{few_literals}
use Rattle.cw_states.proofs.pairs.rules_of.Goals as goal

pub unreachable-requires : goal.unreachable-requires
unreachable-requires c =
    let few = few_literals (policy_of c.args.policy.now) c.requires in
    let many : 64 < count (bad_of (policy_of c.args.policy.now).rules) + 1 = rw (← c.deref.ensures.value) c.in-Err.ensures.many in
    omega (arith, few, many)
