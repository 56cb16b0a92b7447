use Rattle.std.proofs.Common.{◌≡◌, ℕ, nat_lt, ◌&&◌}
use Rattle.cw_core.specs.StateSet.{has}
use Rattle.cw_game.specs.Games.{returned}
use Rattle.cw_game.specs.Pairs.{kept_at}
use Rattle.cw_product.specs.Product.{game_of}
use Rattle.cw_solve.specs.Rounds.{holds_by}
use Rattle.cw_linked.specs.Works.{known_of, heights_of}
use Rattle.cw_linked.proofs.ties.promise_of.Given as goal

abbrev pub invariant-loop-x : goal.invariant-loop-x
invariant-loop-x l = (x : ℕ) → has l.set x ≡ (nat_lt x l.x && holds_by l.moves (heights_of (game_of l.game) (known_of l.work) l.link.at.number l.back.0
    (returned (game_of l.game).states (kept_at l.split l.link.state.0) x)))
