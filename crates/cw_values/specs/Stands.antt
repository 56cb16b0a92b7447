-- Where a plain run stands: a state of it, with the point, the calls that wait and the values as the code holds them.
use Rattle.std.specs.Prelude.{◌≡◌, ℕ, suc, List, [], ◌∷◌, map, false, Option, Some, None, option_map, Result, Ok, Err}
use Rattle.cw_core.specs.declared.ids.PointId.{PointId}
use Rattle.cw_rights.specs.Policies.{PlainPolicy}
use Rattle.cw_syntax.specs.declared.program.Name.{Name}
use Rattle.cw_syntax.specs.Plans.{Plan, plan_of}
use Rattle.cw_syntax.specs.Frames.{Frame, Way, pass}
use Rattle.cw_syntax.specs.Runnable.{IsRunnable}
use Rattle.cw_resolve.specs.Scenes.{names_of}
use Rattle.cw_points.specs.Graphs.{nodes}
use Rattle.cw_points.specs.Points.{points}
use Rattle.cw_points.specs.Walks.{Stand, stand}
use Rattle.cw_points.proofs.Ways.{StackAt}
use Rattle.cw_model.specs.Boards.{problem_of, begin}
use Rattle.cw_value.specs.Machines.{Source, Machine, goes, halts, step, call_in}
use Rattle.cw_value.specs.Shown.{Values}
use Rattle.cw_value.specs.declared.values.Stop.{Stop}
use Rattle.cw_value.specs.Runs.{Going, Ends, most_steps}
use Rattle.cw_eval.specs.declared.halt.Halt.{Halt}
use Rattle.cw_eval.specs.declared.halt.Halt.TheVariants as halt
use Rattle.cw_eval.specs.Passings.{way_in}
use Rattle.cw_agree.proofs.Progress.{Ready, TopSettled}
use Rattle.cw_machine.specs.declared.machine.Machine.{Machine as HeldMachine}
use Rattle.cw_machine.specs.Shown.{back_of, call_of, machine_of}
use Rattle.cw_values.specs.declared.running.Onward.{Onward}

abbrev pub plan : PlainPolicy → Source → Plan
plan policy s = plan_of (names_of policy) s.bytes s.file

-- the frames below the top
abbrev pub below : List Frame → List Frame
below [] = []
below (frame ∷ frames) = frames

abbrev pub here_of : Option PointId → List ℕ → Option Stand
here_of point returns = option_map (λ p. stand returns p.0) point

-- A state of a plain run stands here, with these calls that wait and these values: its frames do, and go on behind the calls; nothing of its front is done.
pub record Stands (policy : PlainPolicy) (s : Source) (here : Option Stand) (calls : List (Option (ℕ × Option Name))) (m : Machine) (g : Going) : Type 0 where
  pub runs : IsRunnable (plan policy s)
  pub stack : StackAt (nodes (plan policy s)) (points (plan policy s)) g.woven.board.stack here
  pub waiting : map call_in (below g.woven.board.stack) ≡ calls
  pub machine : g.machine ≡ m
  pub phase : g.woven.board.phase ≡ begin policy g.woven.board.stack
  pub tried : g.tried ≡ 0
  pub ready : Ready policy s runs g.woven.board.stack g.machine.frames
  pub settled : TopSettled policy s runs g.woven.board.stack

abbrev pub StandsAt : PlainPolicy → Source → Option PointId → HeldMachine → Going → Type 0
StandsAt policy s point m g = Stands policy s (here_of point (map back_of m.waits.items)) (map call_of m.waits.items) (machine_of m) g

-- a run that ends from the second state, ends from the first, with one step more
abbrev pub Follows : PlainPolicy → Source → Going → Going → Type 0
Follows policy s g next = (n : ℕ) → (v : Values) → Ends s (problem_of policy s.bytes s.file) None n next v → Ends s (problem_of policy s.bytes s.file) None (suc n) g v

-- the program's own step leads from the first state to the second, by this way
pub record Passes (policy : PlainPolicy) (s : Source) (way : Way) (g next : Going) : Type 0 where
  pub does : step s false g.woven.board.stack g.machine ≡ goes way next.machine
  pub passes : pass (plan policy s) g.woven.board.stack way ≡ Some next.woven.board.stack

-- the run ends at the program's own step
pub record Breaks (policy : PlainPolicy) (s : Source) (why : Stop) (m : Machine) (g : Going) : Type 0 where
  pub does : step s false g.woven.board.stack g.machine ≡ halts why m
  pub ends : (n : ℕ) → Ends s (problem_of policy s.bytes s.file) None (suc n) g (record { made = m.made; tried = 0; stop = why })

-- a step leads from a state to one that stands at the next point, or the run ends at it
abbrev pub Advances : PlainPolicy → Source → Result Onward Halt → HeldMachine → Going → Type 0
Advances policy s (Ok step) m g = (now : Going) × StandsAt policy s step.next m now × Follows policy s g now × Passes policy s (way_in step.way) g now
Advances policy s (Err (halt.Stop why)) m g = Breaks policy s why (machine_of m) g
Advances policy s (Err halt.NoMemory) m g = Unit {0}

-- so many steps before its end a run that began at the first state stands here
abbrev pub Leads : PlainPolicy → Source → Option PointId → HeldMachine → Going → ℕ → Type 0
Leads policy s point m g left =
    (now : Going) × StandsAt policy s point m now
    × ((v : Values) → Ends s (problem_of policy s.bytes s.file) None left now v → Ends s (problem_of policy s.bytes s.file) None most_steps g v)

-- the run ends so
abbrev pub EndsSo : PlainPolicy → Source → HeldMachine → Going → Stop → Type 0
EndsSo policy s m g stop = Ends s (problem_of policy s.bytes s.file) None most_steps g (record { made = (machine_of m).made; tried = 0; stop = stop })
