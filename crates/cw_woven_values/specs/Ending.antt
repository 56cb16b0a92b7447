-- How a woven run ends.
use Rattle.std.specs.Prelude.{ℕ, List, Some}
use Rattle.cw_certs.specs.declared.moves.Move.{Move}
use Rattle.cw_certs.specs.Tables.{Table}
use Rattle.cw_product.specs.Product.{Held}
use Rattle.cw_run.specs.Walks.{Wait}
use Rattle.cw_value.specs.declared.values.Stop.{Stop}
use Rattle.cw_value.specs.Machines.{Source}
use Rattle.cw_value.specs.Shown.{Values}
use Rattle.cw_value.specs.Runs.{Going, Ends, most_steps}
use Rattle.cw_machine.specs.declared.machine.Machine.{Machine as HeldMachine}
use Rattle.cw_machine.specs.Shown.{machine_of}
use Rattle.cw_woven_values.specs.declared.stepping.Stand.{Stand}
use Rattle.cw_woven_values.specs.Standing.{IsWoven, problem}
use Rattle.cw_woven_values.specs.Stepping.{StandsWoven}

module _ (h : Held) (s : Source) (t : Table) where
  -- with so many steps left the run from this state ends so
  abbrev pub EndsWith : ℕ → HeldMachine → ℕ → Going → Stop → Type 0
  EndsWith n m made run stop = Ends s (problem h s t) (Some t) n run (record { made = (machine_of m).made; tried = made; stop = stop })

  abbrev pub EndsSo : HeldMachine → ℕ → Going → Stop → Type 0
  EndsSo m made run stop = EndsWith most_steps m made run stop

  -- so many steps before its end a run that began at the first state stands here
  abbrev pub Leads : IsWoven h s t → Stand → HeldMachine → List Wait → List Move → ℕ → Going → ℕ → Type 0
  Leads w stand m waits left made run steps =
      (now : Going) × StandsWoven h s t w stand m waits left made now
      × ((v : Values) → Ends s (problem h s t) (Some t) steps now v → Ends s (problem h s t) (Some t) most_steps run v)
