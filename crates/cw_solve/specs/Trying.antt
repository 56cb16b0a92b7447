-- Working definitions: what a try to solve with some contexts gives.
use Rattle.std.specs.Prelude.{◌<◌, List}
use Rattle.cw_game.specs.Games.{Game}
use Rattle.cw_solve.specs.declared.contexts.Context.{Context}
use Rattle.cw_solve.specs.declared.tries.Tried.{Tried}
use Rattle.cw_solve.specs.declared.tries.Tried.TheVariants.{Done, More, TooMany}
use Rattle.cw_solve.specs.Contexts.{cells_of, AreTooMany}
use Rattle.cw_solve.specs.Tables.{IsTable, IsDone, AreTabled}

-- a table that is done, contexts with more cells, or too many
abbrev pub IsTried : Game → List Context → Tried → Type 0
IsTried g contexts (Done t) = IsTable g t × IsDone g t
IsTried g contexts (More longer) = AreTabled g longer.items × (cells_of g contexts < cells_of g longer.items)
IsTried g contexts (TooMany longer) = AreTooMany g longer.items
