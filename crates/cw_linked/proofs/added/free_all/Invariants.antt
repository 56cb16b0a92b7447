use Rattle.cw_product.specs.Product.{game_of}
use Rattle.cw_linked.specs.Added.{FreesLinks}
use Rattle.cw_linked.specs.Spans.{CallsBefore}
use Rattle.cw_linked.proofs.added.free_all.Given as goal

abbrev pub invariant-loop-p : goal.invariant-loop-p
invariant-loop-p l = FreesLinks (game_of l.game) l.fn.work l.work l.at.number l.at.context (CallsBefore (game_of l.game) l.p)
