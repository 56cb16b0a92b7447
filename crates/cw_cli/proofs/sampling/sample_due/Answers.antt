use Rattle.std.proofs.Common.{inl}
use Rattle.cw_lemmas.proofs.Options.{if_ok}
use Rattle.cw_rights.specs.Policies.{policy_of}
use Rattle.cw_commands.specs.Outcomes.{due_of}
use Rattle.cw_commands.proofs.Starting.{unput}
use Rattle.cw_stages.proofs.Answering.{ended_due, ended_puts}
use Rattle.cw_cli.specs.Sampling.{AfterPolicy}
use Rattle.cw_cli.proofs.Sampled.{sampled_due}
use Rattle.cw_cli.proofs.sampling.sample_due.Goals as goal

pub sampled-requires-clause-short : goal.sampled-requires-clause-short
sampled-requires-clause-short g c = rw c.deref-in-Ok.ensures.value c.in_ok-policy.ensures.short

pub returns-in-Ok-clause-due : goal.returns-in-Ok-clause-due
returns-in-Ok-clause-due g c =
    let whole = policy_of c.in-Ok.whole in
    let policy = c.in_ok-policy.policy.items in
    let source = c.in_ok-policy.source.items in
    let ended = rw c.deref-in-Ok-2.ensures.value at c.ended.ensures.ended in
    let answer = rw c.deref-in-Ok.ensures.value at c.sampled.ensures.due in
    let spells = rw c.deref.ensures.value at c.in-Ok.ensures.policy in
    let due = ended_due whole source (AfterPolicy c.args.number source whole) c.sampled.result c.ended.result ended answer in
    if_ok _ _ c.ended.result due (λ o d. sampled_due c.args.number policy source whole (due_of o) c.in_ok-policy.ensures.policy c.in_ok-policy.ensures.source spells d)

pub returns-in-Ok-clause-puts : goal.returns-in-Ok-clause-puts
returns-in-Ok-clause-puts g c =
    ended_puts (policy_of c.in-Ok.whole) c.deref-in-Ok-2.result.now g.O.Sink.taken g.O.Sink.faults g.O.Sink.refused c.args.out.now c.sampled.new.out c.sampled.result c.ended.result c.ended.ensures.ended c.sampled.ensures.puts

pub returns-clause-due : goal.returns-clause-due
returns-clause-due g c =
    let fault = rw (c.deref.ensures.value, c.in_ok-policy.ensures.policy) at c.in-Err.ensures.fault in
    if_ok _ _ c.policy_refusal.result c.policy_refusal.ensures.due (λ o p. inl (inl (c.in-Err.fault, fault, p.0, p.1)))

pub returns-clause-puts : goal.returns-clause-puts
returns-clause-puts g c = unput g.O.Sink.taken g.O.Sink.faults g.O.Sink.refused c.args.out.now c.policy_refusal.result c.policy_refusal.ensures.refused
