use Rattle.std.proofs.Common.{◌∙◌, sym}
use Rattle.cw_audit_visits.proofs.Gone.{there_may_stand}
use Rattle.cw_audit_visits.proofs.Stepping.{visited_inner, visited_neither}
use Rattle.cw_audit_visits.proofs.Oks.{when_ok, at_ok}
use Rattle.cw_audit_visits.proofs.sweep.visit_row.Goals as goal

pub is_within-requires-clause-may_stand : goal.is_within-requires-clause-may_stand
is_within-requires-clause-may_stand c = there_may_stand c.args.game.now c.args.search.now c.args.met c.requires.kept c.requires.there

pub call_at-requires-clause-may_stand : goal.call_at-requires-clause-may_stand
call_at-requires-clause-may_stand c = there_may_stand c.args.game.now c.args.search.now c.args.met c.requires.kept c.requires.there

pub returns-then-is_within-clause-visited : goal.returns-then-is_within-clause-visited
returns-then-is_within-clause-visited c =
    when_ok c.steps.result (λ changed e b. visited_inner c.args.game.now c.args.search.now c.args.met.row_key c.args.met.row c.requires.there.row (sym c.is_within.ensures ∙ c.if-is_within.true)
    (at_ok _ c.steps.result changed e c.steps.ensures.noted b))

pub returns-in_default-clause-visited : goal.returns-in_default-clause-visited
returns-in_default-clause-visited c = λ b.
    visited_neither c.args.game.now c.args.search.now c.args.met.row_key (sym c.is_within.ensures ∙ c.if-is_within.false) c.in_default.ensures.none
