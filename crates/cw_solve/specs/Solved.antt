-- A game that is solved: its needed contexts.
use Rattle.std.specs.Prelude.{◌≡◌, ◌<◌, ℕ, List, Option, Some, length, slice_get}
use Rattle.cw_game.specs.Games.{Game}
use Rattle.cw_product.specs.Product.{Held as HeldGame, game_of}
use Rattle.cw_solve.specs.declared.contexts.Context.{Context}
use Rattle.cw_solve.specs.declared.fault.SolveFault.{SolveFault}
use Rattle.cw_solve.specs.declared.fault.SolveFault.TheVariants.{TooManyCells, NoMemory}
use Rattle.cw_solve.specs.declared.table.Table.{Table}
use Rattle.cw_product.specs.Routed.{AreRouted, IsOf}
use Rattle.cw_solve.specs.Contexts.{HeightIs, AreTooMany}
use Rattle.cw_solve.specs.Tables.{IsTable, IsDone}

-- The game, and its contexts.
pub record Held : Type 0 where
  pub game : HeldGame
  pub contexts : List Context

-- why a game isn't solved
abbrev pub IsCause : Game → SolveFault → Type 0
IsCause g (TooManyCells contexts) = AreTooMany g contexts.items
IsCause g NoMemory = Unit {0}

-- A working definition: what a value of `Solved` keeps.
pub record IsKept (h : HeldGame) (t : Table) : Type 0 where
  pub routed : AreRouted (game_of h) (length h.graph.parts.items)
  pub table : IsTable (game_of h) t
  pub done : IsDone (game_of h) t

-- a context with this number, a position of its function and a state
abbrev pub IsNumbered : Held → (number p q : ℕ) → Type 0
IsNumbered h number p q = (c : Context) × (slice_get h.contexts number ≡ Some c) × IsOf (game_of h.game) c.function p × (q < (game_of h.game).states.count)

-- the height of the pair under the promise of the context with this number
abbrev pub IsHeightIn : Held → (number p q : ℕ) → Option ℕ → Type 0
IsHeightIn h number p q height = (c : Context) → slice_get h.contexts number ≡ Some c → HeightIs (game_of h.game) p q c.promise height
