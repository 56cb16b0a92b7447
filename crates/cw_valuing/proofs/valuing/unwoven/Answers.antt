use Rattle.std.proofs.Common.{inl, subst}
use Rattle.cw_lemmas.proofs.Options.{if_ok}
use Rattle.cw_rights.specs.Policies.{policy_of}
use Rattle.cw_commands.specs.Outcomes.{due_of}
use Rattle.cw_commands.proofs.Starting.{unput}
use Rattle.cw_stages.proofs.Answering.{ended_due, ended_puts}
use Rattle.cw_valuing.specs.Valuing.{AfterPolicy}
use Rattle.cw_valuing.proofs.valuing.unwoven.Goals as goal

pub returns-in-Ok-clause-due : goal.returns-in-Ok-clause-due
returns-in-Ok-clause-due g c =
    let whole = policy_of c.args.policy.now in
    let ended = rw c.deref.ensures.value at c.ended.ensures.ended in
    let due = ended_due whole c.in-Ok.parts.source.items (AfterPolicy c.in-Ok.parts.text.now c.args.answers.now whole) c.accepted.result c.ended.result ended c.accepted.ensures.due in
    if_ok _ _ c.ended.result due (λ o d. subst (λ text. AfterPolicy text c.args.answers.now whole (due_of o)) c.in-Ok.ensures.text d)

pub returns-in-Ok-clause-puts : goal.returns-in-Ok-clause-puts
returns-in-Ok-clause-puts g c =
    ended_puts (policy_of c.args.policy.now) c.deref.result.now g.O.Sink.taken g.O.Sink.faults g.O.Sink.refused c.args.out.now c.accepted.new.out c.accepted.result c.ended.result
    c.ended.ensures.ended c.accepted.ensures.puts

pub returns-in-Err-clause-due : goal.returns-in-Err-clause-due
returns-in-Err-clause-due g c = if_ok _ _ c.refused.result c.refused.ensures.due (λ o d. inl (c.in-Err.ensures.stop (due_of o) d))

pub returns-in-Err-clause-puts : goal.returns-in-Err-clause-puts
returns-in-Err-clause-puts g c = unput g.O.Sink.taken g.O.Sink.faults g.O.Sink.refused c.args.out.now c.refused.result c.refused.ensures.refused
