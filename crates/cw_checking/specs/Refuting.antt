-- What is due for `refute`, by the bytes of a policy, of a source and of a strategy.
use Rattle.std.specs.Prelude.{◌≡◌, ◌⊎◌, ℕ, List, Some}
use Rattle.cw_rights.specs.Policies.{PlainPolicy}
use Rattle.cw_syntax.specs.Trees.{File}
use Rattle.cw_certs.specs.Strategies.{Strategy}
use Rattle.cw_model.specs.Boards.{Problem, problem_of}
use Rattle.cw_game.specs.Games.{Game}
use Rattle.cw_game.specs.Conditions.{RowFault, strategy_fault, IsGoodStrategy}
use Rattle.cw_echeck.specs.Beating.{BeatsAll}
use Rattle.cw_commands.specs.declared.outcome.Reply.TheVariants.{Yes, No}
use Rattle.cw_commands.specs.Outcomes.{Due, Told}
use Rattle.cw_stages.specs.Reading.{AfterReading}
use Rattle.cw_stages.specs.Games.{WhereFits}
use Rattle.cw_stages.specs.Refusals.{yes}
use Rattle.cw_stages.specs.Strategies.{told, Wins, WithStrategy}

-- The strategy meets the conditions of the game, and wins; or the first row that fails one.
abbrev pub IsJudged : Problem → Game → Strategy → Due → Type 0
IsJudged p g s due =
    (IsGoodStrategy g s × (due ≡ Told Yes yes) × Wins p g s)
    ⊎ ((f : RowFault) × (strategy_fault g s ≡ Some f) × (due ≡ Told No (told f)))

-- the same for every program of which that is the game
abbrev pub IsJudgedBy : Game → Strategy → Due → Type 0
IsJudgedBy g s due =
    (IsGoodStrategy g s × (due ≡ Told Yes yes) × BeatsAll g s)
    ⊎ ((f : RowFault) × (strategy_fault g s ≡ Some f) × (due ≡ Told No (told f)))

-- That the policy doesn't fit the program, that no game of theirs comes, or the judgement.
abbrev pub AfterStrategy : List ℕ → PlainPolicy → File → Strategy → Due → Type 0
AfterStrategy source whole file s = WhereFits (λ g due. IsJudged (problem_of whole source file) g s due) source whole file

-- That the strategy isn't spelled in the policy's format, or what comes behind that.
abbrev pub AfterPair : List ℕ → List ℕ → PlainPolicy → File → Due → Type 0
AfterPair source text whole file = WithStrategy (AfterStrategy source whole file) whole.format text

-- The policy and the source are read first.
abbrev pub IsRefuteDue : List ℕ → List ℕ → List ℕ → Due → Type 0
IsRefuteDue policy source text = AfterReading (AfterPair source text) policy source
