-- What is due for `check`, by the bytes of a policy and of a woven text.
use Rattle.std.specs.Prelude.{◌≡◌, ◌⊎◌, ℕ, List, Some}
use Rattle.cw_rights.specs.Policies.{PlainPolicy}
use Rattle.cw_syntax.specs.Trees.{File}
use Rattle.cw_certs.specs.Tables.{Table}
use Rattle.cw_model.specs.Boards.{Problem, problem_of}
use Rattle.cw_model.specs.Runs.{Sound}
use Rattle.cw_game.specs.Games.{Game}
use Rattle.cw_game.specs.Conditions.{TableFault, table_fault, IsGoodTable}
use Rattle.cw_commands.specs.declared.outcome.Reply.TheVariants.{Yes, No}
use Rattle.cw_commands.specs.Outcomes.{Due, Told}
use Rattle.cw_stages.specs.Games.{WhereWovenFits}
use Rattle.cw_stages.specs.Refusals.{yes}
use Rattle.cw_stages.specs.Tables.{told, WithWoven}
use Rattle.cw_stages.specs.Reading.{BehindPolicy}

-- The table meets the conditions of the game, and is sound; or the first row that fails one.
abbrev pub IsChecked : Problem → Game → Table → Due → Type 0
IsChecked p g t due =
    (IsGoodTable g t × (due ≡ Told Yes yes) × Sound p t)
    ⊎ ((f : TableFault) × (table_fault g t ≡ Some f) × (due ≡ Told No (told f)))

-- That the policy doesn't fit the program, that no game of theirs comes, or what is told of the table.
abbrev pub AfterWoven : List ℕ → PlainPolicy → File → Table → Due → Type 0
AfterWoven source whole file t = WhereWovenFits (λ g due. IsChecked (problem_of whole source file) g t due) source whole file

-- That the text is no woven text, or what comes behind that.
abbrev pub AfterPolicy : (text : List ℕ) → PlainPolicy → Due → Type 0
AfterPolicy text whole = WithWoven (λ source file t due. AfterWoven source whole file t due) text whole

abbrev pub IsCheckDue : (policy text : List ℕ) → Due → Type 0
IsCheckDue policy text = BehindPolicy (AfterPolicy text) policy
