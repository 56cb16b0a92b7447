-- What is due for `sample`, by its number.
use Rattle.std.specs.Prelude.{◌≡◌, ℕ, List}
use Rattle.cw_rights.specs.Policies.{PlainPolicy}
use Rattle.cw_syntax.specs.Trees.{File}
use Rattle.cw_game.specs.Games.{Game}
use Rattle.cw_sample.specs.Samples.{sample_policy, sample_source}
use Rattle.cw_commands.specs.Outcomes.{Due, Told, Refused}
use Rattle.cw_stages.specs.declared.numbers.Numbers.{Numbers}
use Rattle.cw_stages.specs.Counting.{IsCounted}
use Rattle.cw_stages.specs.Reading.{WithSource}
pub use Rattle.cw_cli.specs.Telling.{summary}
use Rattle.cw_cli.specs.Weaving.{AfterPair, Weaves}

-- The verdict on a source is told by its numbers, with its own status.
abbrev pub IsSummed : (number : ℕ) → PlainPolicy → List ℕ → File → Game → Due → Type 0
IsSummed number whole source file g (Told reply text) =
    (written : List ℕ) × (numbers : Numbers) × IsCounted numbers whole source file g (Told reply written) × (text ≡ summary number numbers reply)
IsSummed number whole source file g (Refused cause line) = ⊥

-- A source behind its policy goes through the stages of `weave`.
abbrev pub AfterPolicy : (number : ℕ) → List ℕ → PlainPolicy → Due → Type 0
AfterPolicy number source whole = WithSource (λ file. AfterPair (IsSummed number whole source file) source whole file) source whole

-- So do the sample's policy and source.
abbrev pub IsSampleDue : (number : ℕ) → Due → Type 0
IsSampleDue number = Weaves (λ whole file. IsSummed number whole (sample_source number) file) sample_policy (sample_source number)
