-- What is read can be run.
use Rattle.std.proofs.Common.{sym, subst}
use Rattle.cw_rights.specs.Policies.{policy_of}
use Rattle.cw_resolve.specs.Scenes.{names_of}
use Rattle.cw_syntax.specs.Trees.{file_of}
use Rattle.cw_source.specs.Read.{ReadsAs}
use Rattle.cw_value_tests.proofs.ground.runs.Goals as goal

pub values_plain-requires-clause-runnable : goal.values_plain-requires-clause-runnable
values_plain-requires-clause-runnable _ c =
    let file = file_of c.in-Ok.checked.program in
    c.programs_are_runnable.ensures.runnable (names_of (policy_of c.args.policy.now)) c.in-Ok.checked.source.now file
    (subst (λ s. ReadsAs s file) (sym c.in-Ok.ensures.source) c.in-Ok.ensures.program)
