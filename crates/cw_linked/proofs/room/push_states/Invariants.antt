use Rattle.std.proofs.Common.{◌*◌}
use Rattle.cw_product.specs.Product.{game_of}
use Rattle.cw_solve.specs.Rounds.{positions}
use Rattle.cw_linked.specs.Added.{PushesIndices, FlagsLinks}
use Rattle.cw_linked.proofs.room.push_states.Given as goal

abbrev pub invariant-loop-x : goal.invariant-loop-x
invariant-loop-x l =
    let g = game_of l.game in
    let many = l.x * positions g l.function in
    record {
      indices : PushesIndices l.fn.store l.store many;
      flagged : FlagsLinks g l.fn.store.flags l.store.flags l.function many;
    }
