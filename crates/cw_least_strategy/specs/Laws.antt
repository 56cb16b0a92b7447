-- What holds of every strategy by least heights.
use Rattle.cw_certs.specs.Strategies.{Strategy}
use Rattle.cw_game.specs.Conditions.{IsGoodStrategy}
use Rattle.cw_product.specs.Product.{Held, game_of}
use Rattle.cw_product.specs.Made.{IsMade}
use Rattle.cw_least_strategy.specs.Strategies.{IsLeastStrategy}

-- It meets the conditions of a strategy.
abbrev pub LeastAreGood : Type 0
LeastAreGood = (h : Held) → IsMade h → (s : Strategy) → IsLeastStrategy (game_of h) s → IsGoodStrategy (game_of h) s
