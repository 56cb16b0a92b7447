-- Flags as the bits of limbs of 64, with the number of flags before each limb.
use Rattle.std.specs.Prelude.{◌≡◌, ℕ, ◌+◌, ◌*◌, ◌/◌, ◌%◌, ◌^◌, ◌<◌, ◌≤◌, ◌==◌, Bool, List, length, map, slice_index}
use Rattle.std.specs.Int.{bit_at}
use Rattle.std.specs.List.{range_with_len}
use Rattle.cw_links.specs.Flags.{number, rank}

-- whether the bit of an index is 1
abbrev pub flag_in : List ℕ → ℕ → Bool
flag_in limbs index = bit_at (slice_index limbs (index / 64)) (index % 64) == 1

-- the flags of so many indices
unfoldable pub flags_of : List ℕ → ℕ → List Bool
flags_of limbs count = map (flag_in limbs) (range_with_len 0 count)

-- the limbs have bits for so many indices and no flag behind them, and the numbers of flags are right
pub record AreKept (limbs before : List ℕ) (count flagged : ℕ) : Type 0 where
  pub few : count ≤ 4294967295
  pub long : length limbs ≡ (count + 63) / 64
  pub counts : length before ≡ (count + 63) / 64
  pub clear : slice_index limbs (count / 64) < 2 ^ (count % 64)
  pub ranks : (k : ℕ) → k < length before → slice_index before k ≡ rank (flags_of limbs count) (64 * k)
  pub all : flagged ≡ number (flags_of limbs count)
