use Rattle.std.proofs.Common.{◌-◌, ◌≤◌, length}
use Rattle.cw_links.specs.Low.{stacks_in}
use Rattle.cw_links.specs.Queues.{AreNone}
use Rattle.cw_links.proofs.low.make_stacks.Given as goal

abbrev pub invariant-loop-alloc : goal.invariant-loop-alloc
invariant-loop-alloc l = record {
  many : length l.stacks.items ≤ 8;
  none : AreNone (stacks_in l.stacks.items);
}

abbrev pub decreases-loop-alloc : goal.decreases-loop-alloc
decreases-loop-alloc l = 8 - length l.stacks.items
