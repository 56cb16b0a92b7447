-- How a run begins.
use Rattle.std.specs.Prelude.{◌≡◌, List, None}
use Rattle.cw_rights.specs.Policies.{PlainPolicy}
use Rattle.cw_certs.specs.declared.moves.Move.{Move}
use Rattle.cw_model.specs.Boards.{problem_of}
use Rattle.cw_value.specs.declared.values.Stop.{Stop}
use Rattle.cw_value.specs.Expressions.{Memory, Outcome, gives, stops}
use Rattle.cw_value.specs.Declarations.{Done}
use Rattle.cw_value.specs.Starts.{main_machine}
use Rattle.cw_value.specs.Shown.{values_of}
use Rattle.cw_value.specs.Runs.{Going, going_start}
use Rattle.cw_starts.specs.Sources.{source_in}
use Rattle.cw_machine.specs.declared.machine.Machine.{Machine as HeldMachine}
use Rattle.cw_machine.specs.Shown.{machine_of}
use Rattle.cw_values.specs.declared.running.Run.{Run}
use Rattle.cw_values.specs.declared.starting.Begun.{Begun}
use Rattle.cw_values.specs.declared.starting.Begun.TheVariants.{Main, Ended}
use Rattle.cw_values.specs.Running.{entry_of}
use Rattle.cw_values.specs.Stands.{plan, StandsAt}

-- the first state of a plain run, after these values at file scope
abbrev pub first_going : PlainPolicy → Run → List Move → Memory → Going
first_going policy run tries mem = let s = source_in run.known.source in going_start s (problem_of policy s.bytes s.file) None tries mem

-- `main` begins with these values, and the first state of a plain run stands at its entry
pub record BeginsMain (policy : PlainPolicy) (run : Run) (tries : List Move) (mem : Memory) (m : HeldMachine) : Type 0 where
  pub machine : main_machine (source_in run.known.source) (plan policy (source_in run.known.source)).main mem ≡ machine_of m
  pub stands : StandsAt policy (source_in run.known.source) (entry_of run) m (first_going policy run tries mem)

-- a run begins at `main` where the turns at file scope give no stop, and else has ended by it
abbrev pub Begins : PlainPolicy → Run → List Move → Outcome Done → Begun → Type 0
Begins policy run tries turns (Main m) = (d : Done) × (mem : Memory) × (turns ≡ gives d mem) × BeginsMain policy run tries mem m
Begins policy run tries turns (Ended v) = (why : Stop) × (mem : Memory) × (turns ≡ stops why mem) × (values_of v ≡ record { made = mem.made; tried = 0; stop = why })
