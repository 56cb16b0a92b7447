use Rattle.cw_links.specs.Queues.{waiting}
use Rattle.cw_links.specs.Keys.{AreWaiting}
use Rattle.cw_links.proofs.keys.next.Given as goal

abbrev pub invariant-loop-element : goal.invariant-loop-element
invariant-loop-element l = AreWaiting l.cells.asked l.due l.queue

abbrev pub decreases-loop-element : goal.decreases-loop-element
decreases-loop-element l = waiting l.queue
