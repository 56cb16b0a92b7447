use Rattle.std.proofs.Common.{◌≡◌, true, subst}
use Rattle.cw_audit_visits.specs.Searching.{Tells}
use Rattle.cw_audit_visits.proofs.Gone.{gone_trans, group_gone_on, group_there, entry_due, tells_both}
use Rattle.cw_audit_visits.proofs.Proposed.{stays}
use Rattle.cw_audit_visits.proofs.enter.enter.Goals as goal

pub returns-then-not-branch-clause-goes_on : goal.returns-then-not-branch-clause-goes_on
returns-then-not-branch-clause-goes_on c = stays c.args.game.now c.args.search.now c.reach.new.search (c.in_ok-reach.ensures.tells.same cc).0 c.reach.ensures.rests c.requires.kept

pub propose-requires-clause-reach : goal.propose-requires-clause-reach
propose-requires-clause-reach c = group_there c.args.game.now c.args.search.now c.reach.new.search c.args.entrance c.args.entered (c.in_ok-reach.ensures.set cc)

pub propose-requires-clause-kept : goal.propose-requires-clause-kept
propose-requires-clause-kept c =
    (group_gone_on c.args.game.now c.args.search.now c.reach.new.search c.args.entrance c.args.entered c.requires.fair c.requires.kept c.requires.arrival c.requires.caller
    (c.in_ok-reach.ensures.falls cc) (c.in_ok-reach.ensures.set cc) c.reach.ensures.rests).kept

pub propose-requires-clause-due : goal.propose-requires-clause-due
propose-requires-clause-due c =
    let h = c.args.game.now in
    let s1 = c.reach.new.search in
    let gone = group_gone_on h c.args.search.now s1 c.args.entrance c.args.entered c.requires.fair c.requires.kept c.requires.arrival c.requires.caller
    (c.in_ok-reach.ensures.falls cc) (c.in_ok-reach.ensures.set cc) c.reach.ensures.rests in
    entry_due h s1 c.args.entrance.function c.args.entrance.state.0 c.entry.result c.requires.fair gone.kept c.entry.ensures.is
    (c.args.entered.reach, group_there h c.args.search.now s1 c.args.entrance c.args.entered (c.in_ok-reach.ensures.set cc))

pub returns-clause-tells : goal.returns-clause-tells
returns-clause-tells c =
    let s = c.args.search.now in
    let s1 = c.reach.new.search in
    let changed : c.in_ok-reach.field-0 ≡ true = cc in
    tells_both s s1 c.propose.new.search true c.in_ok-propose.field-0 (subst (Tells s s1) changed c.in_ok-reach.ensures.tells) c.in_ok-propose.ensures.tells

pub returns-clause-goes_on : goal.returns-clause-goes_on
returns-clause-goes_on c =
    gone_trans c.args.game.now c.args.search.now c.reach.new.search c.propose.new.search
    (group_gone_on c.args.game.now c.args.search.now c.reach.new.search c.args.entrance c.args.entered c.requires.fair c.requires.kept c.requires.arrival c.requires.caller
    (c.in_ok-reach.ensures.falls cc) (c.in_ok-reach.ensures.set cc) c.reach.ensures.rests)
    c.in_ok-propose.ensures.goes_on
