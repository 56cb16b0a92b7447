-- Cells in a number each: 0 where nothing is known of a cell, twice the height for which it waits, which is its key, and one more than twice the height that it has.
use Rattle.std.specs.Prelude.{ℕ, ◌/◌, ◌%◌, ◌&&◌, ◌||◌, if◌then◌else◌, Bool, nat_eq, nat_lt, List}

-- the height and the key of each cell, 0 where it has none, and how many more cells have their memory already
pub record Celled : Type 0 where
  pub heights : List ℕ
  pub asked : List ℕ
  pub spare : ℕ

-- the height that a number tells
abbrev pub height_in : ℕ → ℕ
height_in number = if nat_eq (number % 2) 0 then 0 else number / 2

-- the key that a number tells
abbrev pub key_in : ℕ → ℕ
key_in number = if nat_eq (number % 2) 0 then number else 0

-- whether a cell of this height that waits under a key may wait under another: it has no height, and the other key is lower, or it doesn't wait
abbrev pub may_wait : (height asked key : ℕ) → Bool
may_wait height asked key = nat_eq height 0 && (nat_eq asked 0 || nat_lt key asked)
