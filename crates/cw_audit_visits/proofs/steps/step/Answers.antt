use Rattle.std.proofs.Common.{arith}
use Rattle.cw_audit_visits.proofs.Oks.{when_ok, at_ok}
use Rattle.cw_audit_visits.proofs.Stepping.{step_proposed, step_noted}
use Rattle.cw_audit_visits.proofs.steps.step.Goals as goal

pub propose-requires-clause-due : goal.propose-requires-clause-due
propose-requires-clause-due c =
    step_proposed c.args.game.now c.args.search.now c.args.met.row_key c.args.met.row.inside c.args.by c.requires.inner c.requires.good c.next.result (c.in-Some.pos, c.in-Some.state) c.cut.result
    c.next.ensures.is c.in-Some.is c.requires.due (omega (arith, c.cut.ensures, c.from.ensures))

pub returns-clause-noted : goal.returns-clause-noted
returns-clause-noted c = when_ok c.propose.result (λ changed e b.
    step_noted c.args.game.now c.args.search.now c.args.met.row_key c.args.met.row.inside c.args.by c.requires.inner c.requires.good c.next.result (c.in-Some.pos, c.in-Some.state) c.cut.result
    c.next.ensures.is c.in-Some.is (omega (arith, c.cut.ensures, c.from.ensures)) (at_ok _ c.propose.result changed e c.propose.ensures.noted b))
