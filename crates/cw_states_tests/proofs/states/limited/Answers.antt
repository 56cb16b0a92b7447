use Rattle.std.proofs.Common.{rules, ◌<◌, length, refl}
use Rattle.std.proofs.lemmas.Option.{slice_get_read}
use Rattle.cw_states_tests.proofs.Primitives.{in_primitives}
use Rattle.cw_states_tests.proofs.states.limited.Goals as goal

pub may_grant-requires-clause-primitive : goal.may_grant-requires-clause-primitive
may_grant-requires-clause-primitive c =
    let limits = c.args.policy.now.limits.items in
    let l : c.args.limit < length limits = search rules in
    in_primitives c.args.policy.now c.args.states.now.policy c.args.limit c.index.result.now c.requires
    (slice_get_read limits (length limits) c.args.limit c.index.result.now refl l c.index.ensures)

pub granted-requires-clause-primitive : goal.granted-requires-clause-primitive
granted-requires-clause-primitive c =
    let limits = c.args.policy.now.limits.items in
    let l : c.args.limit < length limits = search rules in
    in_primitives c.args.policy.now c.args.states.now.policy c.args.limit c.index.result.now c.requires
    (slice_get_read limits (length limits) c.args.limit c.index.result.now refl l c.index.ensures)
