-- A world is told, for a program.
use Rattle.std.proofs.Common.{◌≡◌, ℕ, ◌≤◌, List, [], ◌∷◌, ◌++◌, length, ap, ◌∙◌, refl, ⊎_elim, inl, inr, arith, length-append}
use Rattle.cw_rights.specs.Policies.{PlainPolicy}
use Rattle.cw_syntax.specs.Trees.{File}
use Rattle.cw_syntax.specs.Plans.{plan_of}
use Rattle.cw_resolve.specs.Scenes.{names_of}
use Rattle.cw_certs.specs.Tables.{Table}
use Rattle.cw_model.specs.Boards.{problem_of}
use Rattle.cw_game.specs.Games.{Game}
use Rattle.cw_game.specs.Conditions.{table_fault}
use Rattle.cw_trace.specs.Labels.{names_of as told_names}
use Rattle.cw_text_lines.specs.Lines.{whole_line, whole_lines}
use Rattle.cw_steps.specs.declared.step.Step.{Step as StepData}
use Rattle.cw_steps.specs.Steps.{step_fields, Spells}
use Rattle.cw_worlds.specs.Forks.{fork_places}
use Rattle.cw_worlds.specs.Worlds.{start_world}
use Rattle.cw_procs.specs.Steps.{Entry, End}
use Rattle.cw_procs.specs.Told.{world_trace}
use Rattle.cw_procs.specs.Played.{TellsWorld}
use Rattle.cw_commands.specs.Outcomes.{Due}
use Rattle.cw_stages.proofs.Checks.{failing}
use Rattle.cw_worlding.specs.Held.{IsWorldShownBy}
use Rattle.cw_worlding.specs.Worlding.{world_told, IsWorldShown, IsWorldTold}

-- a list of steps has no more than its text has bytes
lines_few : (steps : List StepData) → length steps ≤ length (whole_lines step_fields steps)
lines_few [] = omega arith
lines_few (s ∷ steps) = omega (arith, lines_few steps, length-append (whole_line step_fields s) (whole_lines step_fields steps), line_long s)
  where
    line_long : (s : StepData) → 1 ≤ length (whole_line step_fields s)
    line_long s = omega (arith, length-append {A = ℕ})

pub steps_few : (text : List ℕ) (steps : List StepData) → Spells text steps → length steps ≤ length text
steps_few text steps h = omega (arith, lines_few steps, ap length h.spelled)

module _ (source : List ℕ) (whole : PlainPolicy) (file : File) where
  pub world_is_told : (t : Table) (list : List Entry) (end : End) (old lines : List ℕ) (due : Due)
      → old ≡ [] → TellsWorld (problem_of whole source file) (told_names source file (plan_of (names_of whole) source file)) t (fork_places source file) list end old lines
      → due ≡ world_told end lines → IsWorldTold source whole file t list due
  world_is_told t list end old lines due none tells e = record {
    end = end;
    steps = tells.steps;
    world = tells.world;
    due_is = e ∙ ap (world_told end) (tells.told ∙ ap (λ (o : List ℕ). o ++ world_trace (told_names source file (plan_of (names_of whole) source file)) (problem_of whole source file)
        (start_world (problem_of whole source file) t) tells.steps) none);
  }

  pub world_shown_for : (t : Table) (list : List Entry) (g : Game) (due : Due) → IsWorldShownBy source whole file t list g due → IsWorldShown source whole file t list g due
  world_shown_for t list g due h = ⊎_elim (λ a. inl a) (λ b. inr (failing g t due b.0 b.2 (table_fault g t) refl b.1)) h
