-- What holds of the worlds of every program, table and set of places.
use Rattle.std.specs.Prelude.{◌≡◌, ℕ, List, Some, slice_get}
use Rattle.cw_certs.specs.Tables.{Table}
use Rattle.cw_model.specs.Boards.{Problem}
use Rattle.cw_model.specs.Runs.{State, WovenRun, reached, Sound}
use Rattle.cw_worlds.specs.Worlds.{World, IsWorld, MeetsInAll}

-- A sound table is sound for all processes together, whichever branches are forks.
abbrev pub WorldsMeet : Type 0
WorldsMeet = (p : Problem) (t : Table) (forks : List ℕ) → Sound p t → MeetsInAll p t forks

-- Each process of a world is where some woven run of the program comes to.
abbrev pub ProcessesAreRuns : Type 0
ProcessesAreRuns = (p : Problem) (t : Table) (forks : List ℕ) (w : World) (i : ℕ) (s : State) → IsWorld p t forks w → slice_get w i ≡ Some s
    → (run : List State) × WovenRun p t run × (reached p t run ≡ s)

-- And where the table is sound each woven run is that of a process of some world: so worlds miss nothing.
abbrev pub RunsAreProcesses : Type 0
RunsAreProcesses = (p : Problem) (t : Table) (forks : List ℕ) (run : List State) → Sound p t → WovenRun p t run
    → (w : World) × (i : ℕ) × IsWorld p t forks w × (slice_get w i ≡ Some (reached p t run))
