use Rattle.std.proofs.Common.{◌≡◌, None, subst}
use Rattle.cw_rights.specs.Policies.{policy_of}
use Rattle.cw_syntax.specs.Trees.{file_of}
use Rattle.cw_scope.specs.Descriptors.{descriptor_fault, IsDueDescriptor}
use Rattle.cw_source_graph.proofs.reading.program_under.Goals as goal

pub returns-in-Ok-check_descriptors-clause-descriptors : goal.returns-in-Ok-check_descriptors-clause-descriptors
returns-in-Ok-check_descriptors-clause-descriptors c =
    subst (λ s. descriptor_fault s (file_of c.in-Ok.checked.program) (policy_of c.args.policy.now) ≡ None) c.in-Ok.ensures.source c.in-Ok-check_descriptors.ensures.ok

pub returns-in-Ok-clause-fault : goal.returns-in-Ok-clause-fault
returns-in-Ok-clause-fault c =
    let file = file_of c.in-Ok.checked.program in
    let fault = c.in-Err-check_descriptors.fault in
    let due = subst (λ s. IsDueDescriptor (descriptor_fault s file (policy_of c.args.policy.now)) fault) c.in-Ok.ensures.source c.in-Err-check_descriptors.ensures.fault in
    (file, c.in-Ok.ensures.program, due)
