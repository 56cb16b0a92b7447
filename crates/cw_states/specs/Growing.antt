-- Working definitions: the rights states that follow one, as the search lists them.
use Rattle.std.specs.Prelude.{ℕ, ◌+◌, ◌<◌, ◌≤◌, List, [], ◌∷◌, ◌++◌, Bool, true, false, cond, Option, Some, None, All, length, map, slice_get}
use Rattle.cw_core.specs.Quantities.{limit_of}
use Rattle.cw_core.specs.declared.quantity.Quantity.TheVariants.{Descriptors}
use Rattle.cw_rights.specs.declared.capabilities.Rights.{Rights}
use Rattle.cw_rights.specs.declared.capabilities.Caps.{Caps}
use Rattle.cw_rights.specs.declared.capabilities.Limit.{Limit as ALimit}
use Rattle.cw_rights.specs.declared.capabilities.Primitive.TheVariants.{Limit, Enter}
use Rattle.cw_rights.specs.Capabilities.{applied, opened, closed}
use Rattle.cw_rights.specs.Policies.{PlainDescriptor, PlainPolicy}
use Rattle.cw_model.specs.Boards.{may_grant}
use Rattle.cw_states.specs.declared.order.Ranked.{Ranked}
use Rattle.cw_states.specs.declared.uses.Uses.{Uses}

abbrev pub ranked : Caps → Ranked
ranked caps = record { caps = caps }

abbrev pub all_caps : List Ranked → List Caps
all_caps states = map (λ r. r.caps) states

-- by a limit, and by each limit
abbrev pub after_limit : Caps → ALimit → List Ranked
after_limit caps limit = cond (may_grant caps (Limit limit)) (ranked (applied caps (Limit limit)) ∷ []) []

abbrev pub after_limits : Caps → List ALimit → List Ranked
after_limits caps [] = []
after_limits caps (limit ∷ limits) = after_limit caps limit ++ after_limits caps limits

-- by an open, where the descriptor is a variable
abbrev pub after_open : Option ℕ → Rights → ℕ → Caps → List Ranked
after_open None rights d caps = ranked (opened caps d rights) ∷ []
after_open (Some n) rights d caps = []

-- by a close, where it is a variable or closed by the source
abbrev pub is_true : Option Bool → Bool
is_true None = false
is_true (Some b) = b

abbrev pub is_closed : Option ℕ → Option Bool → Bool
is_closed None by_source = true
is_closed (Some n) by_source = is_true by_source

abbrev pub after_close : Bool → ℕ → Caps → List Ranked
after_close true d caps = ranked (closed caps d) ∷ []
after_close false d caps = []

-- by each descriptor, numbered from d
abbrev pub after_held : Uses → List PlainDescriptor → ℕ → Caps → List Ranked
after_held uses [] d caps = []
after_held uses (descriptor ∷ rest) d caps =
    after_open descriptor.number descriptor.rights d caps
    ++ (after_close (is_closed descriptor.number (slice_get uses.closes d)) d caps ++ after_held uses rest (d + 1) caps)

abbrev pub after : PlainPolicy → Uses → Caps → List Ranked
after policy uses caps = ranked (applied caps Enter) ∷ (after_limits caps policy.limits ++ after_held uses policy.descriptors 0 caps)

-- the numbers of the policy are those of holds
abbrev pub AreHolds : List ALimit → Type 0
AreHolds limits = All (λ limit. limit.descriptor < 8) limits

pub record IsNarrow (policy : PlainPolicy) : Type 0 where
  pub descriptors : length policy.descriptors ≤ limit_of Descriptors
  pub limits : AreHolds policy.limits
