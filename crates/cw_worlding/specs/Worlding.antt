-- What is due for `world`, by the bytes of a policy, of a woven text and of a list of steps.
use Rattle.std.specs.Prelude.{◌≡◌, ◌⊎◌, ℕ, List, [], ◌∷◌, ◌++◌, map, Some, codes}
use Rattle.std.specs.Fmt.{decimal}
use Rattle.cw_rights.specs.Policies.{PlainPolicy}
use Rattle.cw_syntax.specs.Trees.{File}
use Rattle.cw_syntax.specs.Plans.{plan_of}
use Rattle.cw_resolve.specs.Scenes.{names_of}
use Rattle.cw_certs.specs.Tables.{Table}
use Rattle.cw_model.specs.Boards.{problem_of}
use Rattle.cw_game.specs.Games.{Game}
use Rattle.cw_game.specs.Conditions.{TableFault, table_fault, IsGoodTable}
use Rattle.cw_trace.specs.Labels.{names_of as told_names}
use Rattle.cw_steps.specs.declared.step.Step.{Step as StepData}
use Rattle.cw_steps.specs.Steps.{Spells as SpellsSteps}
use Rattle.cw_steps.specs.Faults.{IsFault}
use Rattle.cw_worlds.specs.Forks.{fork_places}
use Rattle.cw_worlds.specs.Worlds.{Step, start_world}
use Rattle.cw_procs.specs.Steps.{Entry, End, Done, BadStep, IsWorldBy}
use Rattle.cw_procs.specs.Told.{world_trace}
use Rattle.cw_procs.specs.Played.{entry_of}
use Rattle.cw_commands.specs.declared.outcome.Reply.TheVariants.{Yes, No}
use Rattle.cw_commands.specs.Outcomes.{Due, Told}
use Rattle.cw_stages.specs.Games.{WhereWovenFits}
use Rattle.cw_stages.specs.Steps.{steps_refusal}
use Rattle.cw_stages.specs.Tables.{told, WithWoven}
use Rattle.cw_stages.specs.Reading.{BehindPolicy}

-- the trace of a world, and behind it how the world ends: after all steps, with so many processes, or at the first that is none
abbrev pub world_told : End → (lines : List ℕ) → Due
world_told (Done n) lines = Told Yes (lines ++ (codes "done " ++ (decimal n ++ (10 ∷ []))))
world_told (BadStep i) lines = Told No (lines ++ (codes "bad step " ++ (decimal i ++ (10 ∷ []))))

-- There is a world by the steps, and its trace and its end are told.
pub record IsWorldTold (source : List ℕ) (whole : PlainPolicy) (file : File) (t : Table) (list : List Entry) (due : Due) : Type 0 where
  pub end : End
  pub steps : List Step
  pub world : IsWorldBy (problem_of whole source file) t (fork_places source file) list end steps
  pub due_is : due ≡ world_told end (world_trace (told_names source file (plan_of (names_of whole) source file)) (problem_of whole source file) (start_world (problem_of whole source file) t) steps)

-- The table meets the conditions of the game, and its processes are shown; or the first row that fails one.
abbrev pub IsWorldShown : List ℕ → PlainPolicy → File → Table → List Entry → Game → Due → Type 0
IsWorldShown source whole file t list g due =
    (IsGoodTable g t × IsWorldTold source whole file t list due)
    ⊎ ((f : TableFault) × (table_fault g t ≡ Some f) × (due ≡ Told No (told f)))

abbrev pub IsStepsRefusal : (text : List ℕ) → Due → Type 0
IsStepsRefusal text due = (line : ℕ) × IsFault text line × (due ≡ steps_refusal line)

-- That the text isn't one of steps, or what comes next for them.
abbrev pub WithSteps : (List Entry → Due → Type 0) → (text : List ℕ) → Due → Type 0
WithSteps Next text due =
    IsStepsRefusal text due
    ⊎ ((steps : List StepData) × SpellsSteps text steps × Next (map entry_of steps) due)

abbrev pub AfterWoven : (steps source : List ℕ) → PlainPolicy → File → Table → Due → Type 0
AfterWoven steps source whole file t = WithSteps (λ list. WhereWovenFits (IsWorldShown source whole file t list) source whole file) steps

-- That the text is no woven text, or what comes behind that.
abbrev pub AfterPolicy : (text steps : List ℕ) → PlainPolicy → Due → Type 0
AfterPolicy text steps whole = WithWoven (λ source file t. AfterWoven steps source whole file t) text whole

abbrev pub IsWorldDue : (policy text steps : List ℕ) → Due → Type 0
IsWorldDue policy text steps = BehindPolicy (AfterPolicy text steps) policy
