use Rattle.std.proofs.Common.{subst}
use Rattle.cw_lemmas.proofs.Options.{if_ok}
use Rattle.cw_rights.specs.Policies.{policy_of}
use Rattle.cw_source.specs.Read.{ReadsAs}
use Rattle.cw_commands.specs.Outcomes.{due_of}
use Rattle.cw_stages.specs.Stops.{file_in}
use Rattle.cw_stages.proofs.Answering.{ended_due}
use Rattle.cw_parting.specs.Parting.{OfForm}
use Rattle.cw_parting.proofs.Behind.{formed, read_form, unformed}
use Rattle.cw_parting.proofs.parting.of_source.Goals as goal

pub parted-requires-clause-read : goal.parted-requires-clause-read
parted-requires-clause-read g c =
    let whole = policy_of c.args.policy.now in
    let source = c.args.source.now in
    let read = c.in-Ok.ensures in
    let file = file_in c.in-Ok.reading in
    let reads = subst (λ s. ReadsAs s file) read.source read.is.reads in
    let is = rw (read.policy, read.source) at c.in-Ok-form_in.ensures.form in
    let clear = rw (read.policy, read.source) at c.in-Ok-form_in.ensures.clear in
    rw (c.deref.ensures.value, is) (read_form source whole file reads read.descriptors clear)

pub returns-in-Ok-form_in-clause-due : goal.returns-in-Ok-form_in-clause-due
returns-in-Ok-form_in-clause-due g c =
    let whole = policy_of c.args.policy.now in
    let source = c.args.source.now in
    let read = c.in-Ok.ensures in
    let file = file_in c.in-Ok.reading in
    let form = c.in-Ok-form_in.form.items in
    let reads = subst (λ s. ReadsAs s file) read.source read.is.reads in
    let is = rw (read.policy, read.source) at c.in-Ok-form_in.ensures.form in
    let clear = rw (read.policy, read.source) at c.in-Ok-form_in.ensures.clear in
    let parted = rw c.deref.ensures.value at c.parted.ensures.due in
    let ended = rw c.deref-in-Ok-form_in.ensures.value at c.ended.ensures.ended in
    let due = ended_due whole form (OfForm whole form) c.parted.result c.ended.result ended parted in
    if_ok _ _ c.ended.result due (λ o d. formed source whole file (due_of o) reads read.descriptors form is clear d)

pub returns-in-Err-form_in-clause-due : goal.returns-in-Err-form_in-clause-due
returns-in-Err-form_in-clause-due g c =
    let whole = policy_of c.args.policy.now in
    let source = c.args.source.now in
    let read = c.in-Ok.ensures in
    let file = file_in c.in-Ok.reading in
    let reads = subst (λ s. ReadsAs s file) read.source read.is.reads in
    let is = rw (read.policy, read.source) at c.in-Err-form_in.ensures.fault in
    if_ok _ _ c.form_refusal.result c.form_refusal.ensures.due (λ o p. unformed source whole file (due_of o) reads read.descriptors c.in-Err-form_in.fault is p.0 p.1)
