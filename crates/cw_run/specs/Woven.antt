-- What a run by a tape puts.
use Rattle.std.specs.Prelude.{◌≡◌, ℕ, List, ◌++◌}
use Rattle.cw_certs.specs.declared.moves.Move.{Move}
use Rattle.cw_certs.specs.Tables.{Table}
use Rattle.cw_model.specs.Boards.{Problem}
use Rattle.cw_trace.specs.Traces.{Names}
use Rattle.cw_trace.specs.Steps.{Step, End, Ended, TapeSpent, BadMove, IsRunBy, run_trace}
use Rattle.cw_run.specs.declared.run.RunEnd.{RunEnd}
use Rattle.cw_run.specs.declared.run.RunEnd.TheVariants as run_end

-- what the program's data stand for
abbrev pub end_of : RunEnd → End
end_of run_end.Ended = Ended
end_of run_end.TapeSpent = TapeSpent
end_of (run_end.BadMove i) = BadMove i

-- These bytes were appended: the trace of the woven run by the tape, which ends so.
pub record Tells (p : Problem) (names : Names) (t : Table) (tape : List Move) (end : End) (old new : List ℕ) : Type 0 where
  pub steps : List Step
  pub run : IsRunBy p t tape end steps
  pub told : new ≡ old ++ run_trace names p steps
