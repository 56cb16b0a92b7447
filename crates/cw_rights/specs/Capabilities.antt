-- Capabilities, and what a primitive does to them: capsicum(4), cap_enter(2), cap_rights_limit(2), rights(4).
-- `Caps`, `Hold`, `Limit`, `Primitive` and `Allowed` are the program's own types: they hold no memory.
use Rattle.std.specs.Prelude.{◌≡◌, ◌<◌, ℕ, Bool, false, cond, nat_eq, slice_get, slice_set, unwrap_or, bit_and}
use Rattle.std.specs.Int.{bit_at}
use Rattle.cw_rights.specs.declared.capabilities.Rights.{Rights}
use Rattle.cw_rights.specs.declared.capabilities.Hold.{Hold}
use Rattle.cw_rights.specs.declared.capabilities.Hold.TheVariants.{Closed, Open}
use Rattle.cw_rights.specs.declared.capabilities.Caps.{Caps}
use Rattle.cw_rights.specs.declared.capabilities.Limit.{Limit as ALimit}
use Rattle.cw_rights.specs.declared.capabilities.Primitive.{Primitive}
use Rattle.cw_rights.specs.declared.capabilities.Primitive.TheVariants.{Limit, Enter, Split}
use Rattle.cw_rights.specs.declared.capabilities.Allowed.{Allowed}
use Rattle.cw_rights.specs.declared.capabilities.Allowed.TheVariants.{Yes, NotCapable, BadDescriptor}

-- the set of rights has this right: its bit is 1
abbrev pub HasRight : ℕ → ℕ → Type 0
HasRight rights right = bit_at rights right ≡ 1

-- each right that is kept is held
abbrev pub IsContained : ℕ → ℕ → Type 0
IsContained keep held = (right : ℕ) → HasRight keep right → HasRight held right

-- the same as a test
abbrev pub is_contained : ℕ → ℕ → Bool
is_contained keep held = nat_eq (bit_and keep held) keep

-- what is held of a descriptor
abbrev pub hold_of : Caps → ℕ → Hold
hold_of caps descriptor = unwrap_or (slice_get caps.holds descriptor) Closed

-- the descriptor is open with each right that is needed
abbrev pub is_open_with : Hold → ℕ → Bool
is_open_with Closed need = false
is_open_with (Open held) need = is_contained need held.0

-- the descriptor is open with this right
abbrev pub HasRightIn : Hold → ℕ → Type 0
HasRightIn Closed right = ⊥
HasRightIn (Open held) right = HasRight held.0 right

abbrev pub HoldsRight : Caps → ℕ → ℕ → Type 0
HoldsRight caps descriptor right = HasRightIn (hold_of caps descriptor) right

-- a limit on a closed descriptor is EBADF, one that isn't contained in the rights held is ENOTCAPABLE
abbrev pub allowed_on : Hold → ℕ → Allowed
allowed_on Closed keep = BadDescriptor
allowed_on (Open held) keep = cond (is_contained keep held.0) Yes NotCapable

abbrev pub allowed : Caps → ALimit → Allowed
allowed caps limit = allowed_on (hold_of caps limit.descriptor) limit.keep.0

-- the descriptor is open, and each right that the limit keeps is held
abbrev pub KeepsHeld : Caps → ALimit → Type 0
KeepsHeld caps limit =
    (held : Rights) × (hold_of caps limit.descriptor ≡ Open held) × IsContained limit.keep.0 held.0

-- the descriptor is open, and some right that the limit keeps isn't held
abbrev pub KeepsMore : Caps → ALimit → Type 0
KeepsMore caps limit =
    (held : Rights) × (hold_of caps limit.descriptor ≡ Open held) × ((right : ℕ) × HasRight limit.keep.0 right × (HasRight held.0 right → ⊥))

-- every primitive but a limit is always allowed
abbrev pub IsAllowed : Caps → Primitive → Type 0
IsAllowed caps (Limit limit) = allowed caps limit ≡ Yes
IsAllowed caps Enter = Unit {0}
IsAllowed caps Split = Unit {0}

-- a limit names a descriptor below this number
abbrev pub IsDescriptorBelow : ℕ → Primitive → Type 0
IsDescriptorBelow n (Limit limit) = limit.descriptor < n
IsDescriptorBelow n Enter = Unit {0}
IsDescriptorBelow n Split = Unit {0}

-- the descriptor is open with these rights, as after an open that succeeded
abbrev pub opened : Caps → ℕ → Rights → Caps
opened caps descriptor rights = record { amb = caps.amb; holds = slice_set caps.holds descriptor (Open rights) }

-- the descriptor is closed, as after a close or an open that failed
abbrev pub closed : Caps → ℕ → Caps
closed caps descriptor = record { amb = caps.amb; holds = slice_set caps.holds descriptor Closed }

-- what a granted primitive leaves: a limit sets the rights to those that it keeps, enter ends ambient
-- authority, and a split changes nothing
abbrev pub applied : Caps → Primitive → Caps
applied caps (Limit limit) = opened caps limit.descriptor limit.keep
applied caps Enter = record { amb = false; holds = caps.holds }
applied caps Split = caps
