-- Working definitions: what the code answers of a game and a table.
use Rattle.std.specs.Prelude.{◌≡◌, ◌⊎◌, ℕ, List, Some, option_map}
use Rattle.cw_rights.specs.Policies.{PlainPolicy}
use Rattle.cw_syntax.specs.Trees.{File}
use Rattle.cw_certs.specs.Tables.{Table}
use Rattle.cw_game.specs.Games.{Game}
use Rattle.cw_game.specs.Conditions.{table_fault, IsGoodTable}
use Rattle.cw_wcheck.specs.declared.fault.BadRow.{BadRow}
use Rattle.cw_wcheck.specs.Checking.{numbered as told_of}
use Rattle.cw_value.specs.Shown.{Answers}
use Rattle.cw_commands.specs.declared.outcome.Reply.TheVariants.{No}
use Rattle.cw_commands.specs.Outcomes.{Due, Told}
use Rattle.cw_stages.specs.Held.{told_row}
use Rattle.cw_valuing.specs.Valuing.{IsValuesTold}

abbrev pub IsValuesShownBy : List ℕ → PlainPolicy → File → Table → Answers → Game → Due → Type 0
IsValuesShownBy source whole file t a g due =
    (IsGoodTable g t × IsValuesTold source whole file t a due)
    ⊎ ((bad : BadRow) × (option_map told_of (table_fault g t) ≡ Some bad) × (due ≡ Told No (told_row bad)))
