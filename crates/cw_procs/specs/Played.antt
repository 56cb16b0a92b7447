-- What a world by a list of steps puts.
use Rattle.std.specs.Prelude.{◌≡◌, ℕ, List, ◌++◌, Bool, true, false}
use Rattle.cw_certs.specs.declared.moves.Move.{Move}
use Rattle.cw_certs.specs.Tables.{Table}
use Rattle.cw_model.specs.Boards.{Problem}
use Rattle.cw_trace.specs.Traces.{Names}
use Rattle.cw_steps.specs.declared.step.Step.{Step as StepData}
use Rattle.cw_worlds.specs.Worlds.{Act, Makes, Forks, Step, start_world}
use Rattle.cw_procs.specs.declared.world.WorldEnd.{WorldEnd}
use Rattle.cw_procs.specs.declared.world.WorldEnd.TheVariants as world_end
use Rattle.cw_procs.specs.Steps.{Entry, End, Done, BadStep, IsWorldBy}
use Rattle.cw_procs.specs.Told.{world_trace}

-- what the program's data stand for
abbrev pub end_of : WorldEnd → End
end_of (world_end.Done n) = Done n
end_of (world_end.BadStep i) = BadStep i

abbrev pub act_of : Bool → Move → Act
act_of true by = Forks
act_of false by = Makes by

abbrev pub entry_of : StepData → Entry
entry_of s = record { process = s.process; act = act_of s.fork s.by }

-- These bytes were appended: the trace of the world by the list of steps, which ends so.
pub record TellsWorld (p : Problem) (names : Names) (t : Table) (forks : List ℕ) (list : List Entry) (end : End) (old new : List ℕ) : Type 0 where
  pub steps : List Step
  pub world : IsWorldBy p t forks list end steps
  pub told : new ≡ old ++ world_trace names p (start_world p t) steps
