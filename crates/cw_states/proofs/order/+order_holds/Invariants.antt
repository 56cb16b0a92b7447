use Rattle.std.proofs.Common.{length}
use Rattle.cw_states.proofs.order.+order_holds.Given as goal

abbrev pub decreases-order_holds : goal.decreases-order_holds
decreases-order_holds l = length l.a.now
