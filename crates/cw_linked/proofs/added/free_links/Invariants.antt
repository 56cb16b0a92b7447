use Rattle.cw_product.specs.Product.{game_of}
use Rattle.cw_linked.specs.Added.{FirstOf, FreesLinks}
use Rattle.cw_linked.proofs.added.free_links.Given as goal

abbrev pub invariant-loop-x : goal.invariant-loop-x
invariant-loop-x l = FreesLinks (game_of l.game) l.fn.work l.work l.at.number l.at.context (FirstOf l.pos.0 l.x)
