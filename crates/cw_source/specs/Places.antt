-- Places in a source as people count them.
use Rattle.std.specs.Prelude.{ℕ, ◌+◌, Bool, not, cond, ◌==◌, List, take, reverse}
use Rattle.std.specs.List.{count_by, prefix_len}

-- the bytes before a place
abbrev pub front_of : List ℕ → ℕ → List ℕ
front_of source at = take at source

abbrev pub is_line_feed : ℕ → Bool
is_line_feed b = b == 10

-- The line of a place, counted from 1: how many line feeds are before it, and one more.
abbrev pub line_of : List ℕ → ℕ → ℕ
line_of source at = count_by is_line_feed (front_of source at) + 1

-- The column behind some bytes: how many of them stand behind the last line feed, and one more.
abbrev pub column_behind : List ℕ → ℕ
column_behind front = prefix_len (λ b. not (is_line_feed b)) (reverse front) + 1

-- The column of a place, counted in bytes from 1.
abbrev pub column_of : List ℕ → ℕ → ℕ
column_of source at = column_behind (front_of source at)

-- the column behind a byte that stands at this column
abbrev pub behind : ℕ → ℕ → ℕ
behind b column = cond (is_line_feed b) 1 (column + 1)
