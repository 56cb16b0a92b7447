use Rattle.std.proofs.lemmas.Option.{IfSome_then}
use Rattle.cw_rights.specs.Policies.{policy_of}
use Rattle.cw_states.proofs.Ordered.{ranked_exact}
use Rattle.cw_states.proofs.Growing.{exactly_caps, more_caps}
use Rattle.cw_lemmas.proofs.Options.{where_none}
use Rattle.cw_states.proofs.growth.rights_states.Goals as goal

pub closed_up_to-requires-clause-exact : goal.closed_up_to-requires-clause-exact
closed_up_to-requires-clause-exact c = ranked_exact

pub returns-clause-all : goal.returns-clause-all
returns-clause-all c =
    IfSome_then c.in_ok-found.found c.in_ok-found.ensures.reached
    (λ v h. exactly_caps (policy_of c.args.policy.now) c.args.uses c.start_caps.result c.start_caps.ensures v.items h)

pub returns-clause-many : goal.returns-clause-many
returns-clause-many c =
    where_none c.in_ok-found.found c.in_ok-found.ensures.many
    (more_caps (policy_of c.args.policy.now) c.args.uses c.start_caps.result c.start_caps.ensures 128)
