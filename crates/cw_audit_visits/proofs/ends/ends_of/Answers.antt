use Rattle.std.proofs.Common.{arith}
use Rattle.cw_audit_visits.proofs.Ended.{all_ends, ends_more}
use Rattle.cw_audit_visits.proofs.ends.ends_of.Goals as goal

pub loop-number-preserved : goal.loop-number-preserved
loop-number-preserved c = ends_more c.args.game.now c.args.search.now c.loop-number.number c.loop-number.ends c.put_end.new.ends c.loop-number.invariant c.in_ok-put_end.ensures

pub returns : goal.returns
returns c =
    all_ends c.args.game.now c.args.search.now c.loop-number.ends c.count-number-end.result c.count-number-end.ensures
    (λ number low. c.loop-number.invariant number (omega (arith, low, c.loop-number-test.false)))
