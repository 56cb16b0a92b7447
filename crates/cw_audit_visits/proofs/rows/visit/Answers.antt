use Rattle.std.proofs.Common.{◌∙◌, refl, sym}
use Rattle.cw_audit_visits.proofs.Oks.{when_ok, at_ok}
use Rattle.std.proofs.lemmas.Bool.{or_parts}
use Rattle.cw_audit_visits.proofs.Gone.{gone_trans, there_may_stand}
use Rattle.cw_audit_visits.proofs.Visited.{leads_unknown, leads_within, leads_end, leads_call}
use Rattle.cw_audit_visits.proofs.rows.visit.Goals as goal

pub is_within-requires-clause-may_stand : goal.is_within-requires-clause-may_stand
is_within-requires-clause-may_stand c = there_may_stand c.args.game.now c.args.search.now c.in-Some.met c.requires.kept c.in-Some.ensures.there

pub call_at-requires-clause-may_stand : goal.call_at-requires-clause-may_stand
call_at-requires-clause-may_stand c = there_may_stand c.args.game.now c.args.search.now c.in-Some.met c.requires.kept c.in-Some.ensures.there

pub returns-in_default-clause-noted : goal.returns-in_default-clause-noted
returns-in_default-clause-noted c = λ b. leads_unknown c.args.game.now c.args.search.now c.args.key c.args.number c.in_default.ensures.none

pub returns-then-is_within-clause-noted : goal.returns-then-is_within-clause-noted
returns-then-is_within-clause-noted c = when_ok c.steps.result (λ changed e b.
    leads_within c.args.game.now c.args.search.now c.args.key c.args.number c.in-Some.met c.in-Some.ensures.entry c.in-Some.ensures.there (sym c.is_within.ensures ∙ c.if-is_within.true)
    (at_ok _ c.steps.result changed e c.steps.ensures.noted b))

pub returns-in_default-call_at-clause-noted : goal.returns-in_default-call_at-clause-noted
returns-in_default-call_at-clause-noted c = when_ok c.resume_all.result (λ changed e b.
    leads_end c.args.game.now c.args.search.now c.args.key c.args.number c.in-Some.met c.in-Some.ensures.entry c.in-Some.ensures.there (sym c.is_within.ensures ∙ c.if-is_within.false)
    c.in_default-call_at.ensures.none)

pub returns-clause-noted : goal.returns-clause-noted
returns-clause-noted c = λ b.
    let n = or_parts c.in_ok-entered.entered c.in_ok-returned.returned b in
    leads_call c.args.game.now c.args.search.now c.args.key c.args.number c.in-Some.met c.in-Some.ensures.entry c.in-Some.ensures.there (sym c.is_within.ensures ∙ c.if-is_within.false)
    (record { met = c.in-Some.met; callee = c.in-Some-call_at.callee; back = c.in-Some-call_at.back }) refl c.in-Some-call_at.ensures.some (c.in_ok-entered.ensures.near n.0)

pub returns-clause-goes_on : goal.returns-clause-goes_on
returns-clause-goes_on c =
    gone_trans c.args.game.now c.args.search.now c.call.new.search c.return_all.new.search c.in_ok-entered.ensures.goes_on c.in_ok-returned.ensures.goes_on
