-- What the code's machine stands for.
use Rattle.std.specs.Prelude.{◌≡◌, ℕ, List, [], ◌∷◌, map, Option, Some, None, Result, Ok, Err}
use Rattle.cw_syntax.specs.declared.program.Name.{Name}
use Rattle.cw_syntax.specs.Frames.{Frame, On}
use Rattle.cw_value.specs.Deeds.{Passing, does}
use Rattle.cw_value.specs.Expressions.{Outcome, gives, stops}
use Rattle.cw_value.specs.Machines.{Source, Locals, Machine, Step, goes, halts, answering, call_in, function, memory, new_locals, result_by, scope_in, settled_in}
use Rattle.cw_deeds.specs.declared.items.Row.{Row}
use Rattle.cw_deeds.specs.declared.items.Row.TheVariants as row
use Rattle.cw_machine.specs.Knowing.{deed_for}
use Rattle.cw_eval.specs.declared.halt.Halt.{Halt}
use Rattle.cw_eval.specs.declared.halt.Halt.TheVariants as halt
use Rattle.cw_eval.specs.declared.deeds.Way.{Way}
use Rattle.cw_eval.specs.Passings.{way_in}
use Rattle.cw_eval.specs.Shown.{memory_of, store_of}
use Rattle.cw_machine.specs.declared.machine.Wait.{Wait}
use Rattle.cw_machine.specs.declared.machine.Machine.{Machine as HeldMachine}

abbrev pub locals_of : Wait → Locals
locals_of w = record { function = w.function; own = store_of w.own; answer = w.answer; saved = None }

abbrev pub top_of : HeldMachine → Locals
top_of m = record { function = m.function; own = store_of m.memory.own; answer = m.answer; saved = None }

abbrev pub machine_of : HeldMachine → Machine
machine_of m = record { shared = (memory_of m.memory).shared; frames = top_of m ∷ map locals_of m.waits.items; calls = (memory_of m.memory).calls; made = (memory_of m.memory).made }

-- the frames below the top go on behind the calls that wait
abbrev pub call_of : Wait → Option (ℕ × Option Name)
call_of w = Some (w.at, w.result)

-- the point to which a call that waits returns
abbrev pub back_of : Wait → ℕ
back_of w = w.back.0

abbrev pub Waits : List Frame → List Wait → Type 0
Waits frames waits = map call_in frames ≡ map call_of waits

-- a step goes this way, or halts; of want of memory nothing is said
abbrev pub IsHalted : Halt → Machine → Step → Type 0
IsHalted (halt.Stop s) m st = st ≡ halts s m
IsHalted halt.NoMemory m st = Unit {0}

abbrev pub Goes : Result Way Halt → Machine → Step → Type 0
Goes (Ok way) m st = st ≡ goes (way_in way) m
Goes (Err e) m st = IsHalted e m st

-- ---- steps by their rows

module _ (s : Source) where
  abbrev pub outcome_of : Row → Machine → Locals → Outcome Passing
  outcome_of row m top = does (scope_in s (function s top.function)) (deed_for (function s top.function) row) (memory m top)

  -- a step that stays in its frame
  abbrev pub stays_by : Locals → List Locals → Outcome Passing → Step
  stays_by top rest (stops x k) = halts x (settled_in k top rest)
  stays_by top rest (gives p k) = goes p.way (settled_in k (answering p.answer top) rest)

  abbrev pub stays_at : Row → Machine → List Locals → Step
  stays_at row m [] = goes On m
  stays_at row m (top ∷ rest) = stays_by top rest (outcome_of row m top)

  abbrev pub stays : Row → Machine → Step
  stays row m = stays_at row m m.frames

  -- a call
  abbrev pub calls_by : ℕ → Locals → List Locals → Outcome Passing → Step
  calls_by callee top rest (stops x k) = halts x (settled_in k top rest)
  calls_by callee top rest (gives p k) =
      goes p.way (record (settled_in k (answering p.answer top) rest) { frames = new_locals s callee (map Some p.arguments) None ∷ (record (answering p.answer top) { own = k.own } ∷ rest) })

  abbrev pub calls_at : Row → ℕ → Machine → List Locals → Step
  calls_at row callee m [] = goes On m
  calls_at row callee m (top ∷ rest) = calls_by callee top rest (outcome_of row m top)

  abbrev pub calls : ℕ → ℕ → Option Name → Machine → Step
  calls at callee x m = calls_at (row.Calls at callee x) callee m m.frames

  -- the end of a frame
  abbrev pub returns_at : Wait → Machine → List Locals → Step
  returns_at w m [] = goes On m
  returns_at w m (top ∷ rest) = result_by s w.at w.result top.answer (locals_of w) rest (record m { frames = locals_of w ∷ rest })

  abbrev pub returns : Wait → Machine → Step
  returns w m = returns_at w m m.frames

-- neither a call's row nor an end's
abbrev pub IsInnerRow : Row → Type 0
IsInnerRow (row.Calls at callee x) = ⊥
IsInnerRow row.Ends = ⊥
IsInnerRow _ = Unit {0}
