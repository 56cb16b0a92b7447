-- Why answers are refused, and a program that isn't run over values.
use Rattle.std.specs.Prelude.{◌≡◌, ◌⊎◌, ℕ, List, Some, None}
use Rattle.cw_rights.specs.Policies.{PlainPolicy}
use Rattle.cw_syntax.specs.Trees.{File}
use Rattle.cw_resolve.specs.Scenes.{names_of}
use Rattle.cw_points.specs.declared.graph.Graph.{Graph}
use Rattle.cw_points.specs.Graphs.{IsGraph}
use Rattle.cw_callgraph.specs.Fitting.{Fits}
use Rattle.cw_game.specs.Games.{Game}
use Rattle.cw_value.specs.Shown.{Answers}
use Rattle.cw_value.specs.Starts.{shape}
use Rattle.cw_answers.specs.AnswersText.{Spells}
use Rattle.cw_answers.specs.Faults.{IsFault}
use Rattle.cw_commands.specs.Outcomes.{Due}
use Rattle.cw_stages.specs.Fitting.{IsFitRefusal}
use Rattle.cw_stages.specs.Games.{WithGame}
use Rattle.cw_stages.specs.Values.{answers_refusal, form_refusal}

abbrev pub IsAnswersRefusal : (text : List ℕ) → Due → Type 0
IsAnswersRefusal text due = (line : ℕ) × IsFault text line × (due ≡ answers_refusal line)

-- That the text isn't one of answers, or what comes next for them.
abbrev pub WithAnswers : (Answers → Due → Type 0) → (text : List ℕ) → Due → Type 0
WithAnswers Next text due = IsAnswersRefusal text due ⊎ ((a : Answers) × Spells text a × Next a due)

abbrev pub IsFormRefusal : List ℕ → File → Due → Type 0
IsFormRefusal source file due = (at : ℕ) × (shape source file ≡ Some at) × (due ≡ form_refusal source at)

-- That a name of the program may not be declared where it is; or each may, and what comes behind that.
abbrev pub WithForm : (Game → Due → Type 0) → List ℕ → PlainPolicy → File → Due → Type 0
WithForm Next source whole file due =
    IsFormRefusal source file due
    ⊎ ((shape source file ≡ None) × (graph : Graph) × IsGraph (names_of whole) source file graph × WithGame Next source whole file graph due)

-- That the policy doesn't fit the program, or what comes behind that.
abbrev pub WhereFormed : (Game → Due → Type 0) → List ℕ → PlainPolicy → File → Due → Type 0
WhereFormed Next source whole file due = IsFitRefusal source file whole due ⊎ (Fits source file whole × WithForm Next source whole file due)
