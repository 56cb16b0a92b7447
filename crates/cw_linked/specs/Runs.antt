-- Working definitions: the numbers of positions of functions, by which rows of cells are divided.
use Rattle.std.specs.Prelude.{◌≡◌, ℕ, ◌+◌, ◌/◌, ◌<◌, ◌≤◌, List, length, slice_index}
use Rattle.cw_core.specs.Quantities.{limit_of}
use Rattle.cw_core.specs.declared.quantity.Quantity.TheVariants.{PositionsTimesStates}
use Rattle.cw_game.specs.Games.{Game}
use Rattle.cw_solve.specs.Rounds.{positions}

-- the inverse of a number, in parts of 2^42
pub record IsDivisor (by inverse : ℕ) : Type 0 where
  pub some : 0 < by
  pub few : by ≤ limit_of PositionsTimesStates
  pub is : inverse ≡ 4398046511104 / by + 1

-- the first functions have so many positions
abbrev pub AreRunsOf : Game → List ℕ → Type 0
AreRunsOf g runs = (f : ℕ) → f < length runs → slice_index runs f ≡ positions g f

-- each function whose number fits its type has so many positions
pub record AreRuns (g : Game) (functions : ℕ) (runs : List ℕ) : Type 0 where
  pub are : AreRunsOf g runs
  pub all : (f : ℕ) → f < functions → f < 65536 → f < length runs
