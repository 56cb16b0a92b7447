-- Working definitions: what is live in a game, and its memories.
use Rattle.std.specs.Prelude.{◌≤◌, List, length}
use Rattle.cw_core.specs.Quantities.{limit_of}
use Rattle.cw_core.specs.declared.quantity.Quantity.TheVariants.{Rows}
use Rattle.cw_certs.specs.Ascending.{mem_cmp}
use Rattle.cw_fixpoint.specs.Closures.{Exactly}
use Rattle.cw_game.specs.Games.{Game}
use Rattle.cw_joins.specs.Members.{IsMember, IsPair, pair_cmp}
use Rattle.cw_product.specs.Product.{Held as HeldGame, game_of}
use Rattle.cw_solve.specs.Low.{HeightsAreLow}
use Rattle.cw_lazy_table.specs.declared.key.Key.{Key}
use Rattle.cw_lazy_table.specs.Choices.{choices, start_of}
use Rattle.cw_lazy_table.specs.Laws.{CanBegin}
use Rattle.cw_lazy_table.specs.Lazy.{IsMemory}
use Rattle.cw_lazy_table.specs.SeamKeys.{key_cmp}
use Rattle.cw_lazy_table.specs.Rowing.{Memories}

-- all that is live in a game in which the lazy table can begin
pub record AreLive (h : HeldGame) (keys : List Key) : Type 0 where
  pub begins : CanBegin (game_of h) (length h.graph.parts.items)
  pub low : HeightsAreLow (game_of h)
  pub are : Exactly key_cmp (IsMember (choices (game_of h)) (start_of (game_of h))) keys
  pub few : length keys ≤ limit_of Rows

-- all its pairs of a call and an exit
pub record AreReturns (h : HeldGame) (pairs : List (Key × Key)) : Type 0 where
  pub begins : CanBegin (game_of h) (length h.graph.parts.items)
  pub low : HeightsAreLow (game_of h)
  pub are : Exactly (pair_cmp key_cmp) (IsPair (choices (game_of h)) (start_of (game_of h))) pairs

-- all its memories
pub record AreAllMemories (g : Game) (ms : Memories) : Type 0 where
  pub are : Exactly mem_cmp (IsMemory g) ms
  pub few : length ms ≤ limit_of Rows
