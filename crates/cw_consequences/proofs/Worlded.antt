-- One answer of `world` is due.
use Rattle.std.proofs.Common.{◌≡◌, ℕ, List, map, Result, Ok, Err, refl, sym, ap, ap₂, ◌∙◌, subst, inl, inr}
use Rattle.std.proofs.lemmas.Option.{none-some, same_Some}
use Rattle.cw_rights.specs.Policies.{PlainPolicy}
use Rattle.cw_syntax.specs.Trees.{File}
use Rattle.cw_syntax.specs.Plans.{plan_of}
use Rattle.cw_resolve.specs.Scenes.{names_of}
use Rattle.cw_certs.specs.Tables.{Table}
use Rattle.cw_model.specs.Boards.{problem_of}
use Rattle.cw_game.specs.Games.{Game}
use Rattle.cw_game.specs.Conditions.{TableFault}
use Rattle.cw_policy.proofs.Kept.{is_valid}
use Rattle.cw_trace.specs.Labels.{names_of as told_names}
use Rattle.cw_steps.specs.declared.step.Step.{Step as StepData}
use Rattle.cw_steps.specs.declared.fault.StepsFault.TheVariants.{Line}
use Rattle.cw_steps.proofs.Answered.{one_answer as one_steps_answer}
use Rattle.cw_worlds.specs.Forks.{fork_places}
use Rattle.cw_worlds.specs.Worlds.{Step, start_world}
use Rattle.cw_procs.specs.Steps.{Entry, End}
use Rattle.cw_procs.specs.Told.{world_trace}
use Rattle.cw_procs.specs.Played.{entry_of}
use Rattle.cw_procs.proofs.OneWorld.{one_world}
use Rattle.cw_commands.specs.declared.outcome.Reply.TheVariants.{No}
use Rattle.cw_commands.specs.Outcomes.{Due, Told}
use Rattle.cw_stages.specs.Games.{WhereWovenFits}
use Rattle.cw_stages.specs.Tables.{told as table_told}
use Rattle.cw_stages.specs.Steps.{steps_refusal}
use Rattle.cw_worlding.specs.Worlding.{world_told, AfterPolicy, AfterWoven, IsWorldDue, IsWorldShown, IsWorldTold, WithSteps}
use Rattle.cw_consequences.proofs.Answered.{one_with_woven}
use Rattle.cw_consequences.proofs.Singles.{IsOne, one_behind, one_where_woven_fits}

module _ (Next : List Entry → Due → Type 0) (one : (list : List Entry) → IsOne (Next list)) (text : List ℕ) where
  one_steps : IsOne (WithSteps Next text)
  one_steps due answer (inl (m, is, a)) (inl (n, other, b)) =
      let same : Err (Line m) ≡ Err (Line n) = one_steps_answer text (Err (Line m)) (Err (Line n)) is other in
      let lines : m ≡ n = cc in
      a ∙ ap steps_refusal lines ∙ sym b
  one_steps due answer (inl (m, is, a)) (inr (steps, spelled, after)) =
      let never : Err (Line m) ≡ Ok steps = one_steps_answer text (Err (Line m)) (Ok steps) is spelled in absurd cc
  one_steps due answer (inr (steps, spelled, after)) (inl (m, is, b)) =
      let never : Ok steps ≡ Err (Line m) = one_steps_answer text (Ok steps) (Err (Line m)) spelled is in absurd cc
  one_steps due answer (inr (steps, spelled, after)) (inr (others, other, behind)) =
      let same : Ok others ≡ Ok steps = one_steps_answer text (Ok others) (Ok steps) other spelled in
      let lists : others ≡ steps = cc in
      one (map entry_of steps) due answer after (subst (λ (z : List StepData). Next (map entry_of z) answer) lists behind)

module _ (source : List ℕ) (p : PlainPolicy) (file : File) (t : Table) where
  one_told : (list : List Entry) → IsOne (IsWorldTold source p file t list)
  one_told list due answer a b =
      let same = one_world (problem_of p source file) t (fork_places source file) list a.end b.end a.steps b.steps a.world b.world in
      a.due_is
      ∙ ap₂ (λ (e : End) (steps : List Step). world_told e (world_trace (told_names source file (plan_of (names_of p) source file)) (problem_of p source file)
      (start_world (problem_of p source file) t) steps)) same.0 same.1
      ∙ sym b.due_is

  one_shown : (list : List Entry) (g : Game) → IsOne (IsWorldShown source p file t list g)
  one_shown list g due answer (inl (good, a)) (inl (other, b)) = one_told list due answer a b
  one_shown list g due answer (inl (good, a)) (inr (f, fails, b)) = absurd (none-some f (sym good ∙ fails))
  one_shown list g due answer (inr (f, fails, a)) (inl (good, b)) = absurd (none-some f (sym good ∙ fails))
  one_shown list g due answer (inr (f, fails, a)) (inr (k, other, b)) = a ∙ ap (λ (z : TableFault). Told No (table_told z)) (same_Some f k (sym fails ∙ other)) ∙ sym b

pub one_world_due : (policy text steps : List ℕ) → IsOne (IsWorldDue policy text steps)
one_world_due policy text steps =
    one_behind policy (AfterPolicy text steps)
    (λ p spells. one_with_woven p (is_valid policy p spells) text (λ source file t. AfterWoven steps source p file t)
    (λ source file t. one_steps (λ list. WhereWovenFits (IsWorldShown source p file t list) source p file)
    (λ list. one_where_woven_fits source p file (IsWorldShown source p file t list) (λ g of. one_shown source p file t list g)) steps))
