use Rattle.std.proofs.Common.{inl, inr}
use Rattle.cw_lemmas.proofs.Options.{if_ok}
use Rattle.cw_rights.specs.Policies.{policy_of}
use Rattle.cw_commands.proofs.Starting.{unput}
use Rattle.cw_valuing.proofs.valuing.values_due.Goals as goal

pub returns-in-Ok-clause-due : goal.returns-in-Ok-clause-due
returns-in-Ok-clause-due g c = if_ok _ _ c.unwoven.result c.unwoven.ensures.due (λ o d. inr (policy_of c.in-Ok.whole, c.in-Ok.ensures.policy, d))

pub returns-in-Err-clause-puts : goal.returns-in-Err-clause-puts
returns-in-Err-clause-puts g c = unput g.O.Sink.taken g.O.Sink.faults g.O.Sink.refused c.args.out.now c.policy_refusal.result c.policy_refusal.ensures.refused

pub returns-in-Err-clause-due : goal.returns-in-Err-clause-due
returns-in-Err-clause-due g c = if_ok _ _ c.policy_refusal.result c.policy_refusal.ensures.due (λ o p. inl (c.in-Err.fault, c.in-Err.ensures.fault, p.0, p.1))
