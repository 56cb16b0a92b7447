-- Indices in the list of rights states.
use Rattle.std.proofs.Common.{◌≡◌, ℕ, ◌+◌, List, [], ◌∷◌, map, slice_get, option_map, cond, Some, refl, sym, ap, ◌∙◌}
use Rattle.std.proofs.lemmas.Iterator.Adapters.{position_from-zero}
use Rattle.std.specs.List.{position, position_from}
use Rattle.std.specs.Ordering.{eq_by_cmp}
use Rattle.cw_rights.specs.declared.capabilities.Caps.{Caps}
use Rattle.std.proofs.lemmas.Option.{slice_get-map}
use Rattle.cw_rights.specs.declared.policy.Descriptor.{Descriptor}
use Rattle.cw_rights.specs.Policies.{descriptor_of}
use Rattle.cw_model.specs.Boards.{with_opened}
use Rattle.cw_states.specs.declared.order.Ranked.{Ranked}
use Rattle.cw_states.specs.Rights.{caps_cmp}
use Rattle.cw_states.specs.Growing.{all_caps}

from_caps : (caps : Caps) (i : ℕ) (rights : List Ranked)
    → position_from (λ (r : Ranked). eq_by_cmp caps_cmp r.caps caps) i rights ≡ position_from (λ x. eq_by_cmp caps_cmp x caps) i (all_caps rights)
from_caps caps i [] = refl
from_caps caps i (r ∷ rights) = ap (λ o. cond (eq_by_cmp caps_cmp r.caps caps) (Some i) o) (from_caps caps (i + 1) rights)

pub position_caps : (caps : Caps) (rights : List Ranked)
    → position (λ (r : Ranked). eq_by_cmp caps_cmp r.caps caps) rights ≡ position (λ x. eq_by_cmp caps_cmp x caps) (all_caps rights)
position_caps caps rights =
    position_from-zero (λ (r : Ranked). eq_by_cmp caps_cmp r.caps caps) rights ∙ from_caps caps 0 rights
    ∙ sym (position_from-zero (λ x. eq_by_cmp caps_cmp x caps) (all_caps rights))

-- the capabilities after an open, by the program's descriptors
pub opened_is : (caps : Caps) (descriptors : List Descriptor) (d : ℕ)
    → with_opened caps d (slice_get (map descriptor_of descriptors) d) ≡ with_opened caps d (option_map descriptor_of (slice_get descriptors d))
opened_is caps descriptors d = ap (with_opened caps d) (slice_get-map descriptor_of descriptors d)
