use Rattle.std.proofs.lemmas.Result.{on_ok_weaker}
use Rattle.cw_audit_visits.proofs.Gone.{gone_trans}
use Rattle.cw_audit_visits.proofs.Stepping.{there_same, visited_call, returns_same}
use Rattle.cw_audit_visits.proofs.Ended.{call_ends}
use Rattle.cw_audit_visits.proofs.Oks.{when_ok, at_ok}
use Rattle.cw_audit_visits.proofs.sweep.visit_call.Goals as goal

pub return_each-requires-clause-ends : goal.return_each-requires-clause-ends
return_each-requires-clause-ends c =
    call_ends c.args.game.now c.args.search.now c.call.new.search c.args.ends.now c.args.calling c.list-numbers.result.now (c.in_ok-call.ensures.tells.same cc).0 c.list-numbers.ensures
    c.requires.ends

pub return_each-requires-clause-there : goal.return_each-requires-clause-there
return_each-requires-clause-there c = there_same c.args.search.now c.call.new.search c.args.calling.met (c.in_ok-call.ensures.tells.same cc).0 c.requires.there

pub returns-clause-visited : goal.returns-clause-visited
returns-clause-visited c = when_ok c.return_each.result (λ changed e b.
    visited_call c.args.game.now c.args.search.now c.args.calling c.requires.there c.requires.call c.requires.begun (c.in_ok-call.ensures.near cc)
    (λ y. returns_same c.args.game.now c.args.search.now c.call.new.search c.args.calling.met.row_key c.args.calling.callee c.args.calling.back.0 y (c.in_ok-call.ensures.tells.same cc).0
    (at_ok _ c.return_each.result changed e c.return_each.ensures.noted b y)))

pub returns-clause-goes_on : goal.returns-clause-goes_on
returns-clause-goes_on c =
    on_ok_weaker c.return_each.result (gone_trans c.args.game.now c.args.search.now c.call.new.search c.return_each.new.search c.in_ok-call.ensures.goes_on) c.return_each.ensures.goes_on
