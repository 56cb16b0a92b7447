use Rattle.cw_product.specs.Product.{game_of}
use Rattle.cw_linked.specs.Added.{AsksCells}
use Rattle.cw_linked.specs.Spans.{LossesBefore}
use Rattle.cw_linked.proofs.asked.ask_all.Given as goal

abbrev pub invariant-loop-p : goal.invariant-loop-p
invariant-loop-p l = AsksCells (game_of l.game) l.fn.work l.work l.at.number l.at.context (LossesBefore (game_of l.game) l.p)
