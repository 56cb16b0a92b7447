use Rattle.std.proofs.Common.{arith}
use Rattle.cw_audit_visits.proofs.Stepping.{callee_arrival, callee_caller}
use Rattle.cw_audit_visits.proofs.enter.call.Goals as goal

pub enter-requires-clause-function : goal.enter-requires-clause-function
enter-requires-clause-function c = c.requires.call.callee

pub enter-requires-clause-arrival : goal.enter-requires-clause-arrival
enter-requires-clause-arrival c =
    callee_arrival c.args.game.now c.args.search.now c.args.call.met c.args.call.callee c.cut.result c.requires.there (omega (arith, c.cut.ensures, c.from.ensures, c.from-2.ensures))
    c.requires.call.call.0 c.args.call.back.0 c.requires.call.call.1 c.requires.fair c.requires.kept

pub enter-requires-clause-caller : goal.enter-requires-clause-caller
enter-requires-clause-caller c =
    callee_caller c.args.game.now c.args.search.now c.args.call.met c.args.call.callee c.cut.result c.requires.there (omega (arith, c.cut.ensures, c.from.ensures, c.from-2.ensures))
    c.requires.call.call.0 c.args.call.back.0 c.requires.call.call.1
