-- What is due for `run`, by the bytes of a policy, of a woven text and of a tape.
use Rattle.std.specs.Prelude.{◌≡◌, ◌⊎◌, ℕ, List, false, Some}
use Rattle.cw_rights.specs.Policies.{PlainPolicy}
use Rattle.cw_syntax.specs.Trees.{File}
use Rattle.cw_syntax.specs.Plans.{plan_of}
use Rattle.cw_resolve.specs.Scenes.{names_of}
use Rattle.cw_certs.specs.declared.moves.Move.{Move}
use Rattle.cw_certs.specs.Tables.{Table}
use Rattle.cw_model.specs.Boards.{problem_of}
use Rattle.cw_game.specs.Games.{Game}
use Rattle.cw_game.specs.Conditions.{TableFault, table_fault, IsGoodTable}
use Rattle.cw_trace.specs.Labels.{names_of as told_names}
use Rattle.cw_trace.specs.Steps.{Step, End, IsRunBy, run_trace}
use Rattle.cw_commands.specs.declared.outcome.Reply.TheVariants.{No}
use Rattle.cw_commands.specs.Outcomes.{Due, Told}
use Rattle.cw_stages.specs.Games.{WhereWovenFits}
use Rattle.cw_stages.specs.Tables.{told, WithWoven}
use Rattle.cw_stages.specs.Tapes.{WithTape}
use Rattle.cw_stages.specs.Reading.{BehindPolicy}
pub use Rattle.cw_playing.specs.Telling.{run_told}

-- There is a woven run by the tape, and its trace and its end are told.
pub record IsRunTold (source : List ℕ) (whole : PlainPolicy) (file : File) (t : Table) (tape : List Move) (due : Due) : Type 0 where
  pub end : End
  pub steps : List Step
  pub run : IsRunBy (problem_of whole source file) t tape end steps
  pub due_is : due ≡ run_told end (run_trace (told_names source file (plan_of (names_of whole) source file)) (problem_of whole source file) steps)

-- The table meets the conditions of the game, and is run; or the first row that fails one.
abbrev pub IsRunShown : List ℕ → PlainPolicy → File → Table → List Move → Game → Due → Type 0
IsRunShown source whole file t tape g due =
    (IsGoodTable g t × IsRunTold source whole file t tape due)
    ⊎ ((f : TableFault) × (table_fault g t ≡ Some f) × (due ≡ Told No (told f)))

-- That the tape isn't one of the environment's moves, or what comes behind that.
abbrev pub AfterWoven : (tape source : List ℕ) → PlainPolicy → File → Table → Due → Type 0
AfterWoven tape source whole file t = WithTape (λ moves. WhereWovenFits (IsRunShown source whole file t moves) source whole file) false tape

-- That the text is no woven text, or what comes behind that.
abbrev pub AfterPolicy : (text tape : List ℕ) → PlainPolicy → Due → Type 0
AfterPolicy text tape whole = WithWoven (λ source file t. AfterWoven tape source whole file t) text whole

abbrev pub IsRunDue : (policy text tape : List ℕ) → Due → Type 0
IsRunDue policy text tape = BehindPolicy (AfterPolicy text tape) policy
