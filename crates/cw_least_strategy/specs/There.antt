-- A game that was made and whose start is lost has a strategy by least heights.
use Rattle.std.specs.Prelude.{ℕ}
use Rattle.cw_certs.specs.Strategies.{Strategy}
use Rattle.cw_game.specs.Pairs.{all_states}
use Rattle.cw_product.specs.Product.{Held, game_of}
use Rattle.cw_product.specs.Made.{IsMade}
use Rattle.cw_solve.specs.Contexts.{IsHeight}
use Rattle.cw_least_strategy.specs.Strategies.{IsLeastStrategy}

abbrev pub LeastStrategyIsThere : Type 0
LeastStrategyIsThere = (h : Held) → IsMade h → (n : ℕ) → IsHeight (game_of h) ((game_of h).entry (game_of h).main) (game_of h).states.start (all_states (game_of h)) n
    → (s : Strategy) × IsLeastStrategy (game_of h) s
