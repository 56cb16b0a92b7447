-- What holds of the worlds by a list of steps.
use Rattle.std.specs.Prelude.{◌≡◌, ℕ, List}
use Rattle.cw_certs.specs.Tables.{Table}
use Rattle.cw_model.specs.Boards.{Problem}
use Rattle.cw_worlds.specs.Worlds.{Step}
use Rattle.cw_procs.specs.Steps.{Entry, End, IsWorldBy}

-- For each list of steps there is one world at most, with one end.
abbrev pub OneWorldBySteps : Type 0
OneWorldBySteps = (p : Problem) (t : Table) (forks : List ℕ) (list : List Entry) (one other : End) (steps others : List Step)
    → IsWorldBy p t forks list one steps → IsWorldBy p t forks list other others → (one ≡ other) × (steps ≡ others)
