-- A game in which the lazy table can begin has one.
use Rattle.std.specs.Prelude.{ℕ}
use Rattle.cw_certs.specs.Tables.{Table}
use Rattle.cw_game.specs.Games.{Game}
use Rattle.cw_solve.specs.Low.{HeightsAreLow}
use Rattle.cw_lazy_table.specs.Laws.{CanBegin}
use Rattle.cw_lazy_table.specs.Lazy.{IsLazyTable}

abbrev pub LazyTableIsThere : Type 0
LazyTableIsThere = (g : Game) (functions : ℕ) → CanBegin g functions → HeightsAreLow g → (t : Table) × IsLazyTable g t
