use Rattle.std.proofs.Common.{◌≡◌, ℕ, ◌<◌, length, get_or, slice_get}
use Rattle.std.specs.Option.{option_map}
use Rattle.cw_rights.specs.declared.capabilities.Hold.TheVariants.{Closed}
use Rattle.cw_rights.specs.Policies.{start_hold, descriptor_of}
use Rattle.cw_rights.proofs.policy.start_caps.Given as goal

abbrev pub invariant-loop-i : goal.invariant-loop-i
invariant-loop-i l = record {
  all : length l.holds ≡ 8;
  set : (k : ℕ) → k < l.i → get_or l.holds k Closed ≡ start_hold (option_map descriptor_of (slice_get l.policy.descriptors.items k));
}
