use Rattle.std.specs.Prelude.{slice_get}
use Rattle.cw_game.specs.Pairs.{is_call_in}
use Rattle.cw_product.specs.Product.{game_of}
use Rattle.cw_linked.specs.Spans.{IsSpan}
use Rattle.cw_linked.proofs.spans.calls_of.Given as goal

abbrev pub invariant-loop-p : goal.invariant-loop-p
invariant-loop-p l = let g = game_of l.game in IsSpan g l.function (λ p. is_call_in (slice_get g.spots p)) l.span l.p
