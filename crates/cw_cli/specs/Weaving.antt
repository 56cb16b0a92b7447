-- What is due for `weave`, by the bytes of a policy and of a source.
use Rattle.std.specs.Prelude.{◌≡◌, ◌≢◌, ◌⊎◌, ℕ, List, []}
use Rattle.cw_rights.specs.Policies.{PlainPolicy}
use Rattle.cw_syntax.specs.Trees.{File}
use Rattle.cw_game.specs.Games.{Game}
use Rattle.cw_callgraph.specs.Fitting.{Fits}
use Rattle.cw_commands.specs.Outcomes.{Due}
use Rattle.cw_stages.specs.Reading.{AfterReading}
use Rattle.cw_stages.specs.Fitting.{IsFitRefusal}
use Rattle.cw_stages.specs.Games.{WithGraph}
use Rattle.cw_stages.specs.Refusals.{policy_detached}
use Rattle.cw_stages.specs.Verdicts.{AfterGame, IsVerdict}

-- That the policy detaches functions, or what comes behind that for the game of the policy and the program.
abbrev pub AfterFit : (Game → Due → Type 0) → List ℕ → PlainPolicy → File → Due → Type 0
AfterFit Next source whole file due =
    ((whole.detached ≢ []) × (due ≡ policy_detached)) ⊎ ((whole.detached ≡ []) × WithGraph (AfterGame Next) source whole file due)

-- That the policy doesn't fit the program, or what comes behind that.
abbrev pub AfterPair : (Game → Due → Type 0) → List ℕ → PlainPolicy → File → Due → Type 0
AfterPair Next source whole file due = IsFitRefusal source file whole due ⊎ (Fits source file whole × AfterFit Next source whole file due)

-- These stages, of which each is a refusal or what comes behind it, for a policy and a source, which are read first.
abbrev pub Weaves : (PlainPolicy → File → Game → Due → Type 0) → (policy source : List ℕ) → Due → Type 0
Weaves Next policy source = AfterReading (λ whole file. AfterPair (Next whole file) source whole file) policy source

-- Behind them stands the verdict.
abbrev pub IsWeaveDue : (policy source : List ℕ) → Due → Type 0
IsWeaveDue policy source = Weaves (λ whole file. IsVerdict whole source file) policy source
