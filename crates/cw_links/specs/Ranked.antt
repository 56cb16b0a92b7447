-- Flags as a number for each index: one more than its rank for a flagged one, 0 for any other.
use Rattle.std.specs.Prelude.{◌≡◌, ℕ, zero, suc, ◌+◌, ◌<◌, ◌≤◌, Bool, true, false, List, length, map, slice_index}
use Rattle.cw_links.specs.Flags.{number, rank}

-- whether an index with this number is flagged
abbrev pub is_some : ℕ → Bool
is_some zero = false
is_some (suc rank) = true

abbrev pub flags_of : List ℕ → List Bool
flags_of ranks = map is_some ranks

-- each flagged index has its rank, and so many are flagged
pub record AreRanked (ranks : List ℕ) (flagged : ℕ) : Type 0 where
  pub few : length ranks ≤ 4294967295
  pub are : (index : ℕ) → 0 < slice_index ranks index → slice_index ranks index ≡ rank (flags_of ranks) index + 1
  pub all : flagged ≡ number (flags_of ranks)
