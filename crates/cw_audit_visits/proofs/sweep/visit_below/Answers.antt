use Rattle.std.proofs.Common.{sym, arith}
use Rattle.cw_audit_visits.proofs.Oks.{when_ok, at_ok}
use Rattle.cw_audit_visits.proofs.Swept.{number_settled, past_bound, unknown_settled, visited_settled}
use Rattle.cw_audit_visits.proofs.sweep.visit_below.Goals as goal

pub returns-in_default-clause-settled : goal.returns-in_default-clause-settled
returns-in_default-clause-settled c = λ b. unknown_settled c.args.game.now c.args.search.now c.args.bound c.args.number c.in_default.ensures.none

pub returns-then-cut-bound-clause-settled : goal.returns-then-cut-bound-clause-settled
returns-then-cut-bound-clause-settled c = λ b.
    number_settled c.args.game.now c.args.search.now c.args.bound c.args.number c.in-Some.met.row_key c.in-Some.met.row (sym c.in-Some.ensures.entry)
    (past_bound c.args.game.now c.args.search.now c.args.bound c.cut.result c.in-Some.met c.in-Some.ensures.there (omega (arith, c.cut.ensures, c.from.ensures, c.from-2.ensures)) c.if-cut-bound.true)

pub returns-clause-settled : goal.returns-clause-settled
returns-clause-settled c = when_ok c.visit_row.result (λ changed e b.
    number_settled c.args.game.now c.args.search.now c.args.bound c.args.number c.in-Some.met.row_key c.in-Some.met.row (sym c.in-Some.ensures.entry)
    (visited_settled c.args.game.now c.args.search.now c.args.bound c.in-Some.met.row_key (at_ok _ c.visit_row.result changed e c.visit_row.ensures.visited b)))
