use Rattle.std.proofs.Common.{sym, ap, ◌∙◌}
use Rattle.cw_rights.specs.Policies.{policy_of}
use Rattle.cw_boards.specs.Held.{phase_by}
use Rattle.cw_boards.specs.Choices.{primitives_by}
use Rattle.cw_boards.specs.Changes.{is_free}
use Rattle.cw_boards.proofs.Gets.{free_none, free_some}
use Rattle.cw_boards.proofs.changes.is_free.Goals as goal

pub returns-in-None : goal.returns-in-None
returns-in-None c =
    let all = primitives_by (policy_of c.args.policy.now) c.args.kind in
    free_none all c.in-Visit.stage c.in-None.ensures.same ∙ sym (ap (λ h. is_free (phase_by all h)) c.in-Visit.is)

pub returns-in-Some : goal.returns-in-Some
returns-in-Some c =
    let all = primitives_by (policy_of c.args.policy.now) c.args.kind in
    free_some all c.in-Visit.stage c.in-Some.field-0 c.in-Some.ensures.same ∙ sym (ap (λ h. is_free (phase_by all h)) c.in-Visit.is)
