-- What the weaver's moves and the answers to them leave.
use Rattle.std.specs.Prelude.{◌≡◌, ℕ, suc, ◌≤◌, List, Some}
use Rattle.cw_core.specs.declared.ids.SeamId.{SeamId}
use Rattle.cw_certs.specs.declared.moves.Move.{Move}
use Rattle.cw_certs.specs.Tables.{Table}
use Rattle.cw_game.specs.Games.{Game}
use Rattle.cw_product.specs.Product.{Held}
use Rattle.cw_run.specs.declared.walk.Next.{Next}
use Rattle.cw_run.specs.declared.walk.Next.TheVariants as next
use Rattle.cw_run.specs.Walks.{Here, Wait, here_of, IsHere}
use Rattle.cw_value.specs.declared.values.Stop.TheVariants.{Refused}
use Rattle.cw_value.specs.Machines.{Source}
use Rattle.cw_value.specs.Runs.{Going, Ends, IsFree}
use Rattle.cw_woven_values.specs.declared.visiting.Visited.{Visited}
use Rattle.cw_woven_values.specs.declared.visiting.Visited.TheVariants as visited
use Rattle.cw_woven_values.specs.declared.visiting.Front.{Front}
use Rattle.cw_woven_values.specs.declared.visiting.Front.TheVariants as front
use Rattle.cw_woven_values.specs.Standing.{IsWoven, IsCalm, to_come, problem, EndsAlike, Weaves}

-- where an answer has led
abbrev pub visited_by : Next → Visited
visited_by (next.To here) = visited.On here
visited_by (next.Into here wait) = visited.On here
visited_by (next.Back here) = visited.On here
visited_by next.Over = visited.None
visited_by (next.Resumed here) = visited.On here
visited_by (next.Stopped seam) = visited.Stopped seam

abbrev pub IsVisited : Game → Visited → Type 0
IsVisited g (visited.On next) = IsHere g (here_of next)
IsVisited g _ = Unit {0}

abbrev pub IsFront : Game → Front → Type 0
IsFront g (front.Free next) = IsHere g (here_of next)
IsFront g _ = Unit {0}

module _ (h : Held) (s : Source) (t : Table) (w : IsWoven h s t) (plain : Going) (waits : List Wait) (left : List Move) (made : ℕ) where
  -- the weaver has gone on from a state at the same point
  pub record Goes (run : Going) (next : Here) (now : Going) : Type 0 where
    pub weaves : Weaves h s t w plain next waits left made now
    pub calm : IsCalm now.woven.board.phase
    pub machine : now.machine ≡ run.machine
    pub less : suc (to_come now.woven.board.phase) ≤ to_come run.woven.board.phase
    pub ends : EndsAlike h s t run now

  -- the weaver ends the run
  abbrev pub Quits : Going → SeamId → Type 0
  Quits run seam = (n : ℕ) → Ends s (problem h s t) (Some t) (suc n) run (record { made = run.machine.made; tried = made; stop = Refused seam })

  -- the program's step is due, and nothing was done
  pub record Rests (run : Going) : Type 0 where
    pub free : IsFree run.woven.board.phase
    pub tries : run.tries ≡ left
    pub tried : run.tried ≡ made

  -- what a visit leaves of a state
  abbrev pub Visits : Going → Visited → Type 0
  Visits run (visited.On next) = (now : Going) × Goes run (here_of next) now
  Visits run visited.None = Rests run
  Visits run (visited.Stopped seam) = Quits run seam

  -- a state at the same point, at which the program's step is due
  pub record Arrives (run : Going) (next : Here) (now : Going) : Type 0 where
    pub weaves : Weaves h s t w plain next waits left made now
    pub free : IsFree now.woven.board.phase
    pub machine : now.machine ≡ run.machine
    pub ends : EndsAlike h s t run now

  -- what the weaver's moves at a point leave of a state
  abbrev pub Weaving : Going → Front → Type 0
  Weaving run (front.Free next) = (now : Going) × Arrives run (here_of next) now
  Weaving run (front.Stopped seam) = Quits run seam
