use Rattle.std.proofs.Common.{sym, ◌∙◌, arith}
use Rattle.cw_solve.proofs.Numbering.{found_in, some_has}
use Rattle.cw_solve.proofs.solved.Solved.number_among.Goals as goal

pub returns-then-has_position : goal.returns-then-has_position
returns-then-has_position c = found_in c.args.self.now c.loop-number.number c.args.promise.now c.args.pos.0 (sym c.has_position.ensures ∙ c.if-has_position.true)

pub unreachable-requires : goal.unreachable-requires
unreachable-requires c =
    some_has c.args.self.now c.args.promise.now c.args.pos.0 c.fact_is_kept.ensures.needed c.requires.under c.loop-number.number
    (omega (arith, c.loop-number-test.false, c.contexts-number-end.ensures)) c.loop-number.invariant
