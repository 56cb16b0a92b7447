use Rattle.std.proofs.Common.{List, ℕ, ◌++◌, ap, ap₂, ◌∙◌}
use Rattle.cw_source.specs.Lines.{fault_line}
use Rattle.cw_commands.specs.declared.outcome.Cause.{Cause}
use Rattle.cw_commands.specs.Outcomes.{Refused}
use Rattle.cw_stages.specs.Tables.{of_woven}
use Rattle.cw_stages.proofs.Checks.{woven_is}
use Rattle.cw_stages.proofs.lines.read_refusal.Goals as goal

pub returns-clause-due : goal.returns-clause-due
returns-clause-due g c =
    let line = fault_line c.args.source.now c.args.fault.now in
    c.source_refusal_behind.ensures.due
    ∙ ap₂ (λ (cause : Cause) (front : List ℕ). Refused cause (front ++ line)) c.woven_cause.ensures c.woven_front.ensures
    ∙ woven_is c.in_ok-cause.cause line
    ∙ ap (λ (cause : Cause). of_woven (Refused cause line)) c.in_ok-cause.ensures.cause
