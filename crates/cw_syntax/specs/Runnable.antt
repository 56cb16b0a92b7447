-- What a program needs to be run: its jumps lead somewhere, and it begins somewhere.
-- Public source: ISO/IEC 9899:2011, 5.1.2.2.1 (`main`), 6.8.6.2 and 6.8.6.3 (`continue` and `break` stand in loops).
use Rattle.std.specs.Prelude.{◌≡◌, ℕ, Bool, true, false, Some, slice_get}
use Rattle.cw_syntax.specs.Plans.{Stm, Plain, Break, Continue, Return, Open, Close, Call, Group, Label, If, While, Do, For, Stms, end, then, Routine, Plan}

-- Each `break` and each `continue` of a statement stands in a loop, given whether a loop is around the statement.
abbrev mutual
  pub Lands : Bool → Stm → Type 0
  Lands looped (Plain at) = Unit {0}
  Lands looped (Break at) = looped ≡ true
  Lands looped (Continue at) = looped ≡ true
  Lands looped (Return at) = Unit {0}
  Lands looped (Open at j d) = Unit {0}
  Lands looped (Close at j d) = Unit {0}
  Lands looped (Call at j callee) = Unit {0}
  Lands looped (Group ss) = LandsAll looped ss
  Lands looped (Label at mark j l s) = Lands looped s
  Lands looped (If at s t) = Lands looped s × Lands looped t
  Lands looped (While at s) = Lands true s
  Lands looped (Do at s) = Lands true s
  Lands looped (For at init decided stepped s) = Lands true s

  pub LandsAll : Bool → Stms → Type 0
  LandsAll looped end = Unit {0}
  LandsAll looped (then s ss) = Lands looped s × LandsAll looped ss

-- Each jump of each function stands in a loop, and at the number of `main` stands a function.
pub record IsRunnable (plan : Plan) : Type 0 where
  pub lands : (f : ℕ) (r : Routine) → slice_get plan.routines f ≡ Some r → LandsAll false r.body
  pub main : (r : Routine) × (slice_get plan.routines plan.main ≡ Some r)
