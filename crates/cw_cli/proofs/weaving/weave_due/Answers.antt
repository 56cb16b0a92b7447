use Rattle.std.proofs.Common.{inl}
use Rattle.cw_lemmas.proofs.Options.{if_ok}
use Rattle.cw_rights.specs.Policies.{policy_of}
use Rattle.cw_commands.specs.Outcomes.{due_of}
use Rattle.cw_commands.proofs.Starting.{unput}
use Rattle.cw_stages.specs.Reading.{WithSource}
use Rattle.cw_stages.specs.Verdicts.{IsVerdict}
use Rattle.cw_stages.proofs.Answering.{ended_due, ended_puts, read_behind}
use Rattle.cw_cli.specs.Weaving.{AfterPair}
use Rattle.cw_cli.proofs.weaving.weave_due.Goals as goal

pub returns-in-Ok-clause-due : goal.returns-in-Ok-clause-due
returns-in-Ok-clause-due g c =
    let whole = policy_of c.in-Ok.whole in
    let source = c.args.source.now in
    let due = ended_due whole source (WithSource (λ file. AfterPair (IsVerdict whole source file) source whole file) source whole) c.woven.result c.ended.result c.ended.ensures.ended c.woven.ensures.due in
    if_ok _ _ c.ended.result due
    (λ o d. read_behind (λ p file. AfterPair (IsVerdict p source file) source p file) c.args.policy.now source whole (due_of o) c.in-Ok.ensures.policy d)

pub returns-in-Ok-clause-puts : goal.returns-in-Ok-clause-puts
returns-in-Ok-clause-puts g c =
    ended_puts (policy_of c.in-Ok.whole) c.args.source.now g.O.Sink.taken g.O.Sink.faults g.O.Sink.refused c.args.out.now c.woven.new.out c.woven.result c.ended.result c.ended.ensures.ended c.woven.ensures.puts

pub returns-in-Err-clause-due : goal.returns-in-Err-clause-due
returns-in-Err-clause-due g c = if_ok _ _ c.policy_refusal.result c.policy_refusal.ensures.due (λ o p. inl (inl (c.in-Err.fault, c.in-Err.ensures.fault, p.0, p.1)))

pub returns-in-Err-clause-puts : goal.returns-in-Err-clause-puts
returns-in-Err-clause-puts g c = unput g.O.Sink.taken g.O.Sink.faults g.O.Sink.refused c.args.out.now c.policy_refusal.result c.policy_refusal.ensures.refused
