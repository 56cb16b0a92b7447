-- The rights states of a policy for a source, and their order.
use Rattle.std.specs.Prelude.{◌≡◌, ◌⊎◌, ℕ, ◌+◌, Bool, true, false, Some, None, map, slice_get, Contains}
use Rattle.std.specs.declared.cmp.Ordering.{Ordering}
use Rattle.std.specs.Cmp.Lexicographic.{slice_cmp}
use Rattle.std.specs.Ordering.{nat_cmp, on, then_cmp}
use Rattle.cw_rights.specs.declared.capabilities.Hold.{Hold}
use Rattle.cw_rights.specs.declared.capabilities.Hold.TheVariants.{Closed, Open}
use Rattle.cw_rights.specs.declared.capabilities.Caps.{Caps}
use Rattle.cw_rights.specs.declared.capabilities.Limit.{Limit as ALimit}
use Rattle.cw_rights.specs.declared.capabilities.Primitive.TheVariants.{Limit, Enter}
use Rattle.cw_rights.specs.declared.capabilities.Allowed.TheVariants.{Yes}
use Rattle.cw_rights.specs.Capabilities.{allowed, applied, opened, closed}
use Rattle.cw_rights.specs.Policies.{PlainDescriptor, PlainPolicy, start_caps}
use Rattle.cw_states.specs.declared.uses.Uses.{Uses}

-- a variable of the policy
abbrev pub IsVariable : PlainPolicy → ℕ → PlainDescriptor → Type 0
IsVariable policy d descriptor = (slice_get policy.descriptors d ≡ Some descriptor) × (descriptor.number ≡ None)

-- a variable of the policy, or a number of it that the source closes
abbrev pub MayClose : PlainPolicy → Uses → ℕ → Type 0
MayClose policy uses d =
    (descriptor : PlainDescriptor) × (slice_get policy.descriptors d ≡ Some descriptor)
    × ((descriptor.number ≡ None) ⊎ (slice_get uses.closes d ≡ Some true))

-- The least set of capabilities that has the start and is closed under enter, each allowed limit, each open and each close of a variable,
-- and each close of a number that the source closes.
pub data IsRightsState (policy : PlainPolicy) (uses : Uses) : Caps → Type 0 where
  at_start : IsRightsState policy uses (start_caps policy)
  by_enter : (c : Caps) → IsRightsState policy uses c → IsRightsState policy uses (applied c Enter)
  by_limit : (c : Caps) (limit : ALimit) → Contains policy.limits limit → allowed c limit ≡ Yes → IsRightsState policy uses c
      → IsRightsState policy uses (applied c (Limit limit))
  by_open : (c : Caps) (d : ℕ) (descriptor : PlainDescriptor) → IsVariable policy d descriptor → IsRightsState policy uses c
      → IsRightsState policy uses (opened c d descriptor.rights)
  by_close : (c : Caps) (d : ℕ) → MayClose policy uses d → IsRightsState policy uses c → IsRightsState policy uses (closed c d)

-- their order: ambient authority first, then descriptor by descriptor, Closed first, then by the rights as a number
abbrev pub mode_number : Bool → ℕ
mode_number true = 0
mode_number false = 1

abbrev pub hold_number : Hold → ℕ
hold_number Closed = 0
hold_number (Open rights) = rights.0 + 1

abbrev pub caps_cmp : Caps → Caps → Ordering
caps_cmp = then_cmp (on (λ c. mode_number c.amb) nat_cmp) (on (λ c. map hold_number c.holds) (slice_cmp nat_cmp))
