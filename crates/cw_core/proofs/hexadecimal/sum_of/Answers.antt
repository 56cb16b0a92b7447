use Rattle.cw_core.proofs.Hexadecimals.{sum_below, sum_step}
use Rattle.cw_core.proofs.hexadecimal.sum_of.Goals as goal

pub add_nibble-requires-clause-above : goal.add_nibble-requires-clause-above
add_nibble-requires-clause-above c = rw c.loop-index.invariant (sum_below c.args.digits.now c.loop-index.index c.requires.digits c.loop-index.auto.index-end)

pub loop-index-preserved : goal.loop-index-preserved
loop-index-preserved c = sum_step c.args.digits.now c.loop-index.index c.loop-index.set c.add_nibble.new.self c.value_of.result c.loop-index-test.true c.loop-index.invariant c.value_of.ensures.value c.add_nibble.ensures.sum
