use Rattle.std.proofs.Common.{ap, ◌∙◌, refl}
use Rattle.cw_rights.specs.Policies.{policy_of}
use Rattle.cw_boards.specs.Held.{scene, phase_by, stack_in}
use Rattle.cw_boards.specs.Choices.{primitives_by}
use Rattle.cw_boards.proofs.Having.{phase_by_kind, weavers_not, weavers_are, refused_not, refused_are}
use Rattle.cw_boards.proofs.moves.is_weavers.Goals as goal

pub returns-in-None : goal.returns-in-None
returns-in-None c =
    let pol = policy_of c.args.policy.now in
    let stack = stack_in (scene c.args.checked.now c.args.policy.now) c.args.state.now.stack in
    let all = primitives_by pol c.front_kind-kind.result in
    let q = phase_by_kind pol stack c.front_kind-kind.result c.args.state.now.phase c.front_kind-kind.ensures ∙ ap (phase_by all) c.in-Visit.is in
    (λ z. absurd (cc), λ w. absurd (weavers_not all c.in-Visit.stage _ q c.in-None.ensures.same w))

pub returns-in-Some : goal.returns-in-Some
returns-in-Some c =
    let pol = policy_of c.args.policy.now in
    let stack = stack_in (scene c.args.checked.now c.args.policy.now) c.args.state.now.stack in
    let all = primitives_by pol c.front_kind-kind.result in
    let q = phase_by_kind pol stack c.front_kind-kind.result c.args.state.now.phase c.front_kind-kind.ensures ∙ ap (phase_by all) c.in-Visit.is in
    (λ z. weavers_are all c.in-Visit.stage c.in-Some.field-0 _ q c.in-Some.ensures.same, λ w. refl)

pub returns-in-None-primitive_at : goal.returns-in-None-primitive_at
returns-in-None-primitive_at c =
    let pol = policy_of c.args.policy.now in
    let stack = stack_in (scene c.args.checked.now c.args.policy.now) c.args.state.now.stack in
    let all = primitives_by pol c.front_kind-kind.result in
    let q = phase_by_kind pol stack c.front_kind-kind.result c.args.state.now.phase c.front_kind-kind.ensures ∙ ap (phase_by all) c.in-Refused.is in
    (λ z. absurd (cc), λ w. absurd (refused_not all c.in-Refused.stage _ q c.in-None-primitive_at.ensures.same w))

pub returns-in-Some-primitive_at : goal.returns-in-Some-primitive_at
returns-in-Some-primitive_at c =
    let pol = policy_of c.args.policy.now in
    let stack = stack_in (scene c.args.checked.now c.args.policy.now) c.args.state.now.stack in
    let all = primitives_by pol c.front_kind-kind.result in
    let q = phase_by_kind pol stack c.front_kind-kind.result c.args.state.now.phase c.front_kind-kind.ensures ∙ ap (phase_by all) c.in-Refused.is in
    (λ z. refused_are all c.in-Refused.stage c.in-Some-primitive_at.field-0 _ q c.in-Some-primitive_at.ensures.same, λ w. refl)
