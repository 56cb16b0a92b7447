use Rattle.cw_product.specs.Product.{game_of}
use Rattle.cw_linked.specs.Added.{FirstOf, AsksCells}
use Rattle.cw_linked.proofs.asked.ask_position.Given as goal

abbrev pub invariant-loop-x : goal.invariant-loop-x
invariant-loop-x l = AsksCells (game_of l.game) l.fn.work l.work l.at.number l.at.context (FirstOf l.pos.0 l.x)
