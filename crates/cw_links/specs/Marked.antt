-- The indices that are flagged.
use Rattle.std.specs.Prelude.{◌≡◌, ℕ, ◌<◌, ◌≤◌, Bool, true, List, length, slice_index}
use Rattle.cw_links.specs.Flags.{is_flagged, number, rank}

-- each stands at its rank
pub record AreMarked (flags : List Bool) (indices : List ℕ) : Type 0 where
  pub few : length flags ≤ 4294967295
  pub all : length indices ≡ number flags
  pub flagged : (link : ℕ) → link < number flags → is_flagged flags (slice_index indices link) ≡ true
  pub ranked : (link : ℕ) → link < number flags → rank flags (slice_index indices link) ≡ link
