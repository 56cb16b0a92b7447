-- Heights are told as numbers of 32 bits.
use Rattle.std.specs.Prelude.{ℕ, ◌<◌, Option, Some, None}
use Rattle.cw_game.specs.Games.{Game}
use Rattle.cw_product.specs.Routed.{IsOf}
use Rattle.cw_solve.specs.Contexts.{context, HeightIs, IsNeeded}

abbrev pub IsLow : Option ℕ → Type 0
IsLow None = Unit {0}
IsLow (Some n) = n < 4294967296

-- Of each pair of a position of a function and a state: its height, or none, under a promise that the game needs.
abbrev pub HeightsAreLow : Game → Type 0
HeightsAreLow g = (f p q e : ℕ) → IsNeeded g (context f e) → IsOf g f p → q < g.states.count → (h : Option ℕ) × HeightIs g p q e h × IsLow h
