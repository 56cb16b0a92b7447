-- What is due for `values`, by the bytes of a policy, of a woven text and of answers.
use Rattle.std.specs.Prelude.{◌≡◌, ◌⊎◌, ℕ, List, Some}
use Rattle.cw_rights.specs.Policies.{PlainPolicy}
use Rattle.cw_syntax.specs.Trees.{File}
use Rattle.cw_certs.specs.Tables.{Table}
use Rattle.cw_game.specs.Games.{Game}
use Rattle.cw_game.specs.Conditions.{TableFault, table_fault, IsGoodTable}
use Rattle.cw_value.specs.declared.values.Stop.{Stop}
use Rattle.cw_value.specs.declared.values.Stop.TheVariants.{Ended}
use Rattle.cw_value.specs.Shown.{Answers, Values}
use Rattle.cw_value.specs.Runs.{IsWovenRun}
use Rattle.cw_woven_values.specs.Beside.{AgreesWithPlain}
use Rattle.cw_value_text.specs.ValuesText.{values_text}
use Rattle.cw_commands.specs.declared.outcome.Reply.{Reply}
use Rattle.cw_commands.specs.declared.outcome.Reply.TheVariants.{Yes, No}
use Rattle.cw_commands.specs.Outcomes.{Due, Told}
use Rattle.cw_stages.specs.Tables.{told, WithWoven}
use Rattle.cw_stages.specs.Reading.{BehindPolicy}
use Rattle.cw_valuing.specs.Refusals.{WithAnswers, WhereFormed}

-- status 0 where the run ended, and 1 where it stopped
abbrev pub reply_of : Stop → Reply
reply_of Ended = Yes
reply_of stop = No

abbrev pub values_told : (source : List ℕ) → Values → Due
values_told source v = Told (reply_of v.stop) (values_text source v)

-- There is a woven run over values with these answers, and what it shows is told. Beside it there is a run of the source as it is, over the same answers, with which it agrees: the same external
-- calls with the same arguments in the same order, and the same end; or the weaver has ended it, which only a policy with stop lets it.
pub record IsValuesTold (source : List ℕ) (whole : PlainPolicy) (file : File) (t : Table) (a : Answers) (due : Due) : Type 0 where
  pub values : Values
  pub run : IsWovenRun whole t source file a values
  pub agrees : AgreesWithPlain whole source file a values
  pub due_is : due ≡ values_told source values

-- The table meets the conditions of the game, and its woven program is run; or the first row that fails one.
abbrev pub IsValuesShown : List ℕ → PlainPolicy → File → Table → Answers → Game → Due → Type 0
IsValuesShown source whole file t a g due =
    (IsGoodTable g t × IsValuesTold source whole file t a due)
    ⊎ ((f : TableFault) × (table_fault g t ≡ Some f) × (due ≡ Told No (told f)))

-- That the answers aren't of their grammar, or what comes behind that.
abbrev pub AfterWoven : (answers source : List ℕ) → PlainPolicy → File → Table → Due → Type 0
AfterWoven answers source whole file t = WithAnswers (λ a. WhereFormed (IsValuesShown source whole file t a) source whole file) answers

-- That the text is no woven text, or what comes behind that.
abbrev pub AfterPolicy : (text answers : List ℕ) → PlainPolicy → Due → Type 0
AfterPolicy text answers whole = WithWoven (λ source file t. AfterWoven answers source whole file t) text whole

abbrev pub IsValuesDue : (policy text answers : List ℕ) → Due → Type 0
IsValuesDue policy text answers = BehindPolicy (AfterPolicy text answers) policy
