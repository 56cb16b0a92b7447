-- Working definitions: where the cells of the context stand that is near.
use Rattle.std.specs.Prelude.{◌≡◌, ◌+◌, ◌<◌, List, Some, slice_get}
use Rattle.cw_game.specs.Games.{Game}
use Rattle.cw_solve.specs.declared.contexts.Context.{Context}
use Rattle.cw_solve.specs.Rounds.{base, positions}
use Rattle.cw_linked.specs.declared.home.Home.{Home}

-- where they begin and end, where its function begins, and how many positions that has
pub record IsHomeOf (g : Game) (contexts : List Context) (h : Home) : Type 0 where
  pub there : slice_get contexts h.cell.at.number ≡ Some h.cell.at.context
  pub begins : h.block.base ≡ base g contexts h.cell.at.number
  pub ends : h.past ≡ base g contexts (h.cell.at.number + 1)
  pub enters : h.block.first ≡ g.entry h.cell.at.context.function
  pub runs : h.block.many ≡ positions g h.cell.at.context.function
  pub run : h.run ≡ h.block.many

-- where one is known
abbrev pub IsHome : Game → List Context → Home → Type 0
IsHome g contexts h = 0 < h.past → IsHomeOf g contexts h
