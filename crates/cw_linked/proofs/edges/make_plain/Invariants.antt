use Rattle.std.proofs.Common.{length}
use Rattle.cw_product.specs.Product.{game_of}
use Rattle.cw_linked.specs.Plain.{ArePlain}
use Rattle.cw_linked.proofs.edges.make_plain.Given as goal

abbrev pub invariant-loop-f : goal.invariant-loop-f
invariant-loop-f l = ArePlain (game_of l.game) l.f (length (game_of l.game).spots) l.plain.items
