-- Where the code says that a name is kept.
use Rattle.std.specs.Prelude.{Option, Some, None}
use Rattle.cw_value.specs.Expressions.{Location, Own, OwnArray, Shared, SharedArray, Nowhere}
use Rattle.cw_slots.specs.declared.numbers.Kept.{Kept}
use Rattle.cw_slots.specs.declared.numbers.Kept.TheVariants as kept
use Rattle.cw_slots.specs.declared.scope.Location.{Location as HeldLocation}
use Rattle.cw_slots.specs.declared.scope.Location.TheVariants as held

abbrev pub location_in : HeldLocation → Location
location_in (held.Own n) = Own n
location_in (held.OwnArray n) = OwnArray n
location_in (held.Shared n) = Shared n
location_in (held.SharedArray n) = SharedArray n
location_in held.Nowhere = Nowhere

-- the location of a name of the function
abbrev pub own_kept : Kept → Location
own_kept (kept.Plain n) = Own n
own_kept (kept.Array n) = OwnArray n

-- and of one that is none of its
abbrev pub shared_if_kept : Option Kept → Location
shared_if_kept None = Nowhere
shared_if_kept (Some (kept.Plain n)) = Shared n
shared_if_kept (Some (kept.Array n)) = SharedArray n
