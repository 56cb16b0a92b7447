use Rattle.std.proofs.Common.{◌≡◌, ℕ, ◌<◌, ◌≤◌, false}
use Rattle.std.specs.Prelude.{slice_get, Some}
use Rattle.cw_game.specs.Pairs.{Called, call_in}
use Rattle.cw_product.specs.Product.{game_of}
use Rattle.cw_linked.proofs.room.has_splits.Given as goal

abbrev pub invariant-loop-p : goal.invariant-loop-p
invariant-loop-p l =
    let g = game_of l.game in
    (p : ℕ) (call : Called) → l.calls.first ≤ p → p < l.p → call_in (slice_get g.spots p) ≡ Some call → call.split ≡ false
