-- As far as which rows a search is settled.
use Rattle.std.specs.Prelude.{◌≡◌, ℕ, ◌+◌, ◌<◌, ◌≤◌, List, [], Bool, false, cond, Option, Some, None, min, nat_le, nat_lt}
use Rattle.cw_core.specs.Quantities.{limit_of}
use Rattle.cw_core.specs.declared.quantity.Quantity.TheVariants.{AuditMoves}
use Rattle.cw_certs.specs.declared.moves.Move.{Move}
use Rattle.cw_game.specs.Games.{Game}
use Rattle.cw_audit_store.specs.declared.row_key.Hit.{Hit}
use Rattle.cw_audit_moves.specs.Writing.{IsRunTo}

-- to the nearest violation; or everywhere, where there is none that wasn't cut
abbrev pub bound_of : Option Hit → ℕ
bound_of None = 65538
bound_of (Some h) = cond (nat_le h.distance (limit_of AuditMoves)) h.distance 65538

-- past the key, and not past the nearest violation
abbrev pub early_bound : Option Hit → ℕ → ℕ
early_bound None key = min (min (key + 1) 4294967295) 65537
early_bound (Some h) key = min (min (min (key + 1) 4294967295) 65537) h.distance

abbrev pub IsEarly : Option Hit → ℕ → Type 0
IsEarly None bound = (0 < bound) × (bound ≤ 65537)
IsEarly (Some h) bound = (0 < bound) × (bound ≤ 65537) × (bound ≤ h.distance)

abbrev pub is_far : Option Hit → Bool
is_far None = false
is_far (Some h) = nat_lt (limit_of AuditMoves) h.distance

-- there is no violation, or one that can be told
abbrev pub IsNoted : Option Hit → Type 0
IsNoted h = is_far h ≡ false

-- the moves lead to the nearest violation; without one there are none
abbrev pub AreMovesTo : Game → List Move → Option Hit → Type 0
AreMovesTo g ms None = ms ≡ []
AreMovesTo g ms (Some h) = IsRunTo g ms h.distance
