-- What the code's memories and results stand for.
use Rattle.std.specs.Prelude.{◌≡◌, List, map, Result, Ok, Err, Vec}
use Rattle.std.proofs.Common.{Global}
use Rattle.cw_value.specs.Stores.{Store, Spot, Plain, Element}
use Rattle.cw_value.specs.Expressions.{Memory, Outcome, gives, stops, Target, OwnSpot, SharedSpot, Nothing}
use Rattle.cw_value.specs.Declarations.{Done, done}
use Rattle.cw_value.specs.Shown.{made_of}
use Rattle.cw_eval.specs.declared.halt.Halt.{Halt}
use Rattle.cw_eval.specs.declared.halt.Halt.TheVariants as halt
use Rattle.cw_eval.specs.declared.store.Store.{Store as HeldStore}
use Rattle.cw_eval.specs.declared.store.Spot.{Spot as HeldSpot}
use Rattle.cw_eval.specs.declared.store.Spot.TheVariants as spot
use Rattle.cw_eval.specs.declared.memory.Memory.{Memory as HeldMemory}
use Rattle.cw_eval.specs.declared.memory.Target.{Target as HeldTarget}
use Rattle.cw_eval.specs.declared.memory.Target.TheVariants as target

abbrev pub store_of : HeldStore → Store
store_of s = record { cells = s.cells; arrays = s.arrays.items }

abbrev pub spot_in : HeldSpot → Spot
spot_in (spot.Plain n) = Plain n
spot_in (spot.Element n i) = Element n i

abbrev pub target_in : HeldTarget → Target
target_in (target.Own p) = OwnSpot (spot_in p)
target_in (target.Shared p) = SharedSpot (spot_in p)
target_in target.Nothing = Nothing

abbrev pub memory_of : HeldMemory → Memory
memory_of m = record { own = store_of m.own; shared = store_of m.shared; calls = m.calls.now; made = map made_of m.made.items }

abbrev pub as_is : {A : Type 0} → A → A
as_is x = x

abbrev pub items_in : {A : Type 0} → Vec A Global → List A
items_in v = v.items

-- an error is the stop of an outcome; of want of memory nothing is said
abbrev pub IsHalt : {A : Type 0} → Halt → Memory → Outcome A → Type 0
IsHalt (halt.Stop s) m o = o ≡ stops s m
IsHalt halt.NoMemory m o = Unit {0}

-- a result is that of an outcome, with the memory after it
abbrev pub Shows : {A B : Type 0} → (A → B) → Result A Halt → Memory → Outcome B → Type 0
Shows view (Ok x) m o = o ≡ gives (view x) m
Shows view (Err e) m o = IsHalt e m o

abbrev pub as_done : {A : Type 0} → A → Done
as_done x = done
