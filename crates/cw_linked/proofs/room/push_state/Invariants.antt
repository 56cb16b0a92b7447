use Rattle.cw_product.specs.Product.{game_of}
use Rattle.cw_linked.specs.Added.{ArePushed}
use Rattle.cw_linked.proofs.room.push_state.Given as goal

abbrev pub invariant-loop-p : goal.invariant-loop-p
invariant-loop-p l = ArePushed (game_of l.game) l.fn.store l.store l.function l.state.0 l.p l.plain
