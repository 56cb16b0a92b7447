use Rattle.std.proofs.Common.{◌≤◌, ◌+◌, List}
use Rattle.cw_value.specs.Machines.{Source}
use Rattle.cw_value.specs.Runs.{Going}
use Rattle.cw_product.specs.Product.{game_of}
use Rattle.cw_run.specs.Walks.{IsHere, Wait, here_of}
use Rattle.cw_woven_values.specs.Standing.{IsFresh, IsWoven, Weaves}
use Rattle.cw_woven_values.proofs.Weaving.{Gone}
use Rattle.cw_woven_values.proofs.visiting.weave.Given as goal

abbrev pub invariant-loop-i : goal.invariant-loop-i
invariant-loop-i l =
    record {
      below : l.i ≤ 14;
      few : l.tries.made ≤ l.initial.tries.made + l.i;
      range : IsHere (game_of l.game) (here_of l.here);
      gone : (s : Source) (w : IsWoven l.game s l.table) (waits : List Wait) (plain run : Going)
          → Weaves l.game s l.table w plain (here_of l.fn.start) waits l.initial.tries.left.now l.initial.tries.made run → IsFresh l.game s l.table run
          → (now : Going) × Gone l.game s l.table w plain waits l.i (here_of l.here) l.tries.left.now l.tries.made run now;
    }
