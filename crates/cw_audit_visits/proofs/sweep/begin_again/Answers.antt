use Rattle.std.proofs.Common.{◌∙◌, sym}
use Rattle.cw_audit_visits.proofs.Oks.{when_ok, at_ok}
use Rattle.cw_audit_visits.proofs.Gone.{entry_due}
use Rattle.cw_audit_visits.proofs.Swept.{group_arrival, group_reached, no_begun, number_begun, entry_noted}
use Rattle.cw_audit_visits.proofs.sweep.begin_again.Goals as goal

pub entry-requires : goal.entry-requires
entry-requires c =
    c.requires.fair.below c.in-Some.entrance.function
    (group_arrival c.args.game.now c.args.search.now c.in-Some.entrance c.in-Some.entered c.requires.kept c.in-Some.ensures.group).function

pub propose-requires-clause-reach : goal.propose-requires-clause-reach
propose-requires-clause-reach c = group_reached c.args.search.now c.in-Some.entrance c.in-Some.entered c.in-Some.ensures.group

pub propose-requires-clause-state : goal.propose-requires-clause-state
propose-requires-clause-state c = (group_arrival c.args.game.now c.args.search.now c.in-Some.entrance c.in-Some.entered c.requires.kept c.in-Some.ensures.group).state

pub propose-requires-clause-due : goal.propose-requires-clause-due
propose-requires-clause-due c =
    let at = c.in-Some.entrance in
    entry_due c.args.game.now c.args.search.now at.function at.state.0 c.entry.result c.requires.fair c.requires.kept c.entry.ensures.is
    (c.in-Some.entered.reach, group_reached c.args.search.now at c.in-Some.entered c.in-Some.ensures.group)

pub returns-in_default-clause-begun : goal.returns-in_default-clause-begun
returns-in_default-clause-begun c = λ b. no_begun c.args.game.now c.args.search.now c.args.number c.numbered_group.result c.numbered_group.ensures.entry (λ p is. c.in_default.not-Some p is)

pub returns-clause-begun : goal.returns-clause-begun
returns-clause-begun c = when_ok c.propose.result (λ changed e b.
    number_begun c.args.game.now c.args.search.now c.args.number c.in-Some.entrance c.in-Some.entered (sym c.in-Some.is ∙ c.numbered_group.ensures.entry)
    (entry_noted c.args.game.now c.args.search.now c.in-Some.entrance c.in-Some.entered c.entry.result c.entry.ensures.is c.in-Some.ensures.group
    (at_ok _ c.propose.result changed e c.propose.ensures.noted b)))
