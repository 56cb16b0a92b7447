use Rattle.std.proofs.Common.{ap, sym, ◌∙◌}
use Rattle.std.specs.Prelude.{is_some}
use Rattle.cw_rights.specs.Policies.{policy_of}
use Rattle.cw_boards.specs.declared.choices.Choice.TheVariants.{Forbidden, To, Grants, Steps}
use Rattle.cw_model.specs.Boards.{way_of, mode_of}
use Rattle.cw_boards.specs.Held.{scene, board_in, problem}
use Rattle.cw_boards.proofs.Chosen.{moved_by_kind}
use Rattle.cw_boards.proofs.Having.{stepped_may}
use Rattle.cw_boards.proofs.moves.may_move.Goals as goal

pub returns-in-Forbidden : goal.returns-in-Forbidden
returns-in-Forbidden c =
    let pol = policy_of c.args.policy.now in
    let s = scene c.args.checked.now c.args.policy.now in
    let p = problem c.args.checked.now c.args.policy.now in
    let b = board_in c.args.checked.now c.args.policy.now c.args.state.now in
    sym (ap is_some (moved_by_kind p b c.front_kind-kind.result c.args.state.now.phase c.args.by Forbidden c.front_kind-kind.ensures c.in-Forbidden.ensures))

pub returns-in-To : goal.returns-in-To
returns-in-To c =
    let pol = policy_of c.args.policy.now in
    let s = scene c.args.checked.now c.args.policy.now in
    let p = problem c.args.checked.now c.args.policy.now in
    let b = board_in c.args.checked.now c.args.policy.now c.args.state.now in
    sym (ap is_some (moved_by_kind p b c.front_kind-kind.result c.args.state.now.phase c.args.by (To c.in-To.field-0) c.front_kind-kind.ensures c.in-To.ensures))

pub returns-in-Grants : goal.returns-in-Grants
returns-in-Grants c =
    let pol = policy_of c.args.policy.now in
    let s = scene c.args.checked.now c.args.policy.now in
    let p = problem c.args.checked.now c.args.policy.now in
    let b = board_in c.args.checked.now c.args.policy.now c.args.state.now in
    sym (ap is_some (moved_by_kind p b c.front_kind-kind.result c.args.state.now.phase c.args.by (Grants c.in-Grants.field-0 c.in-Grants.field-1) c.front_kind-kind.ensures c.in-Grants.ensures))

pub returns-in-Steps : goal.returns-in-Steps
returns-in-Steps c =
    let pol = policy_of c.args.policy.now in
    let s = scene c.args.checked.now c.args.policy.now in
    let p = problem c.args.checked.now c.args.policy.now in
    let b = board_in c.args.checked.now c.args.policy.now c.args.state.now in
    c.may_step.ensures
    ∙ sym (ap is_some (moved_by_kind p b c.front_kind-kind.result c.args.state.now.phase c.args.by (Steps c.in-Steps.split) c.front_kind-kind.ensures c.in-Steps.ensures)
    ∙ stepped_may p (mode_of c.in-Steps.split c.args.state.now.caps) b (way_of c.args.by))
