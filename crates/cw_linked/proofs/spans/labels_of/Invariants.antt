use Rattle.std.specs.Prelude.{slice_get}
use Rattle.cw_linked.specs.Added.{loss_begins_in}
use Rattle.cw_product.specs.Product.{game_of}
use Rattle.cw_linked.specs.Spans.{IsSpan}
use Rattle.cw_linked.proofs.spans.labels_of.Given as goal

abbrev pub invariant-loop-p : goal.invariant-loop-p
invariant-loop-p l = let g = game_of l.game in IsSpan g l.function (λ p. loss_begins_in (slice_get g.spots p)) l.span l.p
