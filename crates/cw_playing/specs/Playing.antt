-- What is due for `play`, by the bytes of a policy, of a source, of a strategy and of a tape.
use Rattle.std.specs.Prelude.{◌≡◌, ◌⊎◌, ℕ, List, true, Some}
use Rattle.cw_rights.specs.Policies.{PlainPolicy}
use Rattle.cw_syntax.specs.Trees.{File}
use Rattle.cw_syntax.specs.Plans.{plan_of}
use Rattle.cw_resolve.specs.Scenes.{names_of}
use Rattle.cw_certs.specs.declared.moves.Move.{Move}
use Rattle.cw_certs.specs.Strategies.{Strategy}
use Rattle.cw_model.specs.Boards.{problem_of}
use Rattle.cw_game.specs.Games.{Game}
use Rattle.cw_game.specs.Conditions.{RowFault, strategy_fault, IsGoodStrategy}
use Rattle.cw_echeck.specs.Beating.{IsStartRow}
use Rattle.cw_trace.specs.Labels.{names_of as told_names}
use Rattle.cw_trace.specs.Traces.{Taken, trace}
use Rattle.cw_play.specs.declared.end.PlayEnd.{PlayEnd}
use Rattle.cw_play.specs.Plays.{IsPlayBy}
use Rattle.cw_commands.specs.declared.outcome.Reply.TheVariants.{No}
use Rattle.cw_commands.specs.Outcomes.{Due, Told}
use Rattle.cw_stages.specs.Reading.{AfterReading}
use Rattle.cw_stages.specs.Games.{WhereFits}
use Rattle.cw_stages.specs.Strategies.{told, WithStrategy}
use Rattle.cw_stages.specs.Tapes.{WithTape}
pub use Rattle.cw_playing.specs.Telling.{play_told}

-- There is a play of the strategy by the tape from its start row, and its trace and its end are told.
pub record IsPlayTold (source : List ℕ) (whole : PlainPolicy) (file : File) (g : Game) (s : Strategy) (tape : List Move) (due : Due) : Type 0 where
  pub row : ℕ
  pub start : IsStartRow g s row
  pub end : PlayEnd
  pub steps : List Taken
  pub play : IsPlayBy (problem_of whole source file) s row tape end steps
  pub due_is : due ≡ play_told whole end (trace (told_names source file (plan_of (names_of whole) source file)) (problem_of whole source file) steps)

-- The strategy meets the conditions of the game, and is played; or the first row that fails one.
abbrev pub IsShown : List ℕ → PlainPolicy → File → Strategy → List Move → Game → Due → Type 0
IsShown source whole file s tape g due =
    (IsGoodStrategy g s × IsPlayTold source whole file g s tape due)
    ⊎ ((f : RowFault) × (strategy_fault g s ≡ Some f) × (due ≡ Told No (told f)))

-- That the tape isn't one of the weaver's moves, that the policy doesn't fit the program, that no game of theirs comes, or what is told of the strategy.
abbrev pub AfterStrategy : (source tape : List ℕ) → PlainPolicy → File → Strategy → Due → Type 0
AfterStrategy source tape whole file s = WithTape (λ moves. WhereFits (IsShown source whole file s moves) source whole file) true tape

-- That the strategy isn't spelled in the policy's format, or what comes behind that.
abbrev pub AfterPair : (source text tape : List ℕ) → PlainPolicy → File → Due → Type 0
AfterPair source text tape whole file = WithStrategy (AfterStrategy source tape whole file) whole.format text

-- The policy and the source are read first.
abbrev pub IsPlayDue : (policy source text tape : List ℕ) → Due → Type 0
IsPlayDue policy source text tape = AfterReading (AfterPair source text tape) policy source
