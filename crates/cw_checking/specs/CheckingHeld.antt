-- Working definitions: what the code of `check` answers of a game and a table.
use Rattle.std.specs.Prelude.{◌≡◌, ◌⊎◌, ◌≤◌, length, Some, option_map}
use Rattle.cw_core.specs.Quantities.{limit_of}
use Rattle.cw_core.specs.declared.quantity.Quantity.TheVariants.{Limits}
use Rattle.cw_certs.specs.Tables.{Table}
use Rattle.cw_model.specs.Boards.{Problem}
use Rattle.cw_model.specs.Runs.{Sound}
use Rattle.cw_game.specs.Games.{Game}
use Rattle.cw_game.specs.Conditions.{table_fault, IsGoodTable}
use Rattle.cw_game.specs.Standing.{IsGameOf}
use Rattle.cw_wcheck.specs.declared.fault.BadRow.{BadRow}
use Rattle.cw_wcheck.specs.Checking.{numbered as told_of}
use Rattle.cw_commands.specs.declared.outcome.Reply.TheVariants.{Yes, No}
use Rattle.cw_commands.specs.Outcomes.{Due, Told}
use Rattle.cw_stages.specs.Held.{told_row}
use Rattle.cw_stages.specs.Refusals.{yes}

-- the table is sound for every program of which that is the game
abbrev pub IsSoundBy : Game → Table → Type 0
IsSoundBy g t = (p : Problem) → IsGameOf p g → length p.policy.limits ≤ limit_of Limits → Sound p t

abbrev pub IsCheckedBy : Game → Table → Due → Type 0
IsCheckedBy g t due =
    (IsGoodTable g t × (due ≡ Told Yes yes) × IsSoundBy g t)
    ⊎ ((bad : BadRow) × (option_map told_of (table_fault g t) ≡ Some bad) × (due ≡ Told No (told_row bad)))
