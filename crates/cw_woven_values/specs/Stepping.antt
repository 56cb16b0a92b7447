-- What a step of the program leaves.
use Rattle.std.specs.Prelude.{ℕ, suc, List, Option, Some, None, Result, Ok, Err}
use Rattle.cw_core.specs.declared.ids.PointId.{PointId}
use Rattle.cw_certs.specs.declared.moves.Move.{Move}
use Rattle.cw_certs.specs.Tables.{Table}
use Rattle.cw_game.specs.Games.{Game}
use Rattle.cw_product.specs.Product.{Held}
use Rattle.cw_run.specs.declared.walk.Here.{Here as HereData}
use Rattle.cw_run.specs.Walks.{Wait, here_of, IsHere}
use Rattle.cw_value.specs.declared.values.Stop.TheVariants.{Ended}
use Rattle.cw_value.specs.Machines.{Source}
use Rattle.cw_value.specs.Runs.{Going, Ends}
use Rattle.cw_eval.specs.declared.halt.Halt.{Halt}
use Rattle.cw_eval.specs.declared.halt.Halt.TheVariants as halt
use Rattle.cw_machine.specs.declared.machine.Machine.{Machine as HeldMachine}
use Rattle.cw_machine.specs.Shown.{machine_of}
use Rattle.cw_values.specs.Stands.{StandsAt}
use Rattle.cw_woven_values.specs.declared.stepping.Stand.{Stand}
use Rattle.cw_woven_values.specs.Standing.{IsWoven, IsFresh, policy, problem, EndsBehind, Weaves}

-- both, where both are there
abbrev pub both : Option PointId → Option HereData → Option Stand
both None here = None
both (Some point) None = None
both (Some point) (Some here) = Some (record { point = point; here = here })

abbrev pub IsWent : Game → Result (Option Stand) Halt → Type 0
IsWent g (Ok (Some stand)) = IsHere g (here_of stand.here)
IsWent g _ = Unit {0}

module _ (h : Held) (s : Source) (t : Table) (w : IsWoven h s t) where
  -- a run is at this stand, with these values, at a new front
  pub record StandsWoven (stand : Stand) (m : HeldMachine) (waits : List Wait) (left : List Move) (made : ℕ) (run : Going) : Type 0 where
    pub plain : Going
    pub stands : StandsAt (policy h s t) s (Some stand.point) m plain
    pub weaves : Weaves h s t w plain (here_of stand.here) waits left made run
    pub fresh : IsFresh h s t run

  -- what a step of the program leaves of a state: the state behind it, or an end
  abbrev pub Steps : List Wait → List Move → ℕ → Going → HeldMachine → Result (Option Stand) Halt → Type 0
  Steps waits left made run m (Ok (Some stand)) = (now : Going) × StandsWoven stand m waits left made now × EndsBehind h s t run now
  Steps waits left made run m (Ok None) = (n : ℕ) → Ends s (problem h s t) (Some t) (suc n) run (record { made = (machine_of m).made; tried = made; stop = Ended })
  Steps waits left made run m (Err (halt.Stop why)) = (n : ℕ) → Ends s (problem h s t) (Some t) (suc n) run (record { made = (machine_of m).made; tried = made; stop = why })
  Steps waits left made run m (Err halt.NoMemory) = Unit {0}
