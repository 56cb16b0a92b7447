-- Sets as ranges of numbers.
use Rattle.std.specs.Prelude.{◌≡◌, ℕ, ◌+◌, ◌≤◌, ◌==◌, ◌||◌, ◌&&◌, not, nat_lt, Bool, if◌then◌else◌, List, [], ◌∷◌, ◌++◌, ◌⊎◌, map, length, drop, codes}
use Rattle.std.specs.Char.{is_ascii_alphanumeric}
use Rattle.std.specs.Fmt.{decimal}
use Rattle.std.specs.List.{filter, join_with_byte, range_with_len, take_while}
use Rattle.cw_core.specs.Numerals.{hexadecimal}
use Rattle.cw_core.specs.StateSet.{has, IsBelow}

-- the numbers from the least to the greatest
pub record Run : Type 0 where
  pub least : ℕ
  pub greatest : ℕ

-- a number in front of runs that lie above it: in the first of them where that begins right after it, and
-- otherwise as a run of its own
unfoldable pub in_front : ℕ → List Run → List Run
in_front n [] = record { least = n; greatest = n } ∷ []
in_front n (run ∷ runs) = if run.least == n + 1 then record { least = n; greatest = run.greatest } ∷ runs else record { least = n; greatest = n } ∷ run ∷ runs

-- the maximal runs of numbers that ascend
unfoldable pub runs_of : List ℕ → List Run
runs_of [] = []
runs_of (n ∷ ns) = in_front n (runs_of ns)

-- the members of a set of numbers below 1,024, ascending
unfoldable pub members : ℕ → List ℕ
members set = filter (has set) (range_with_len 0 1024)

-- `FROM-TO`, and a run of one as its number
unfoldable pub run_text : Run → List ℕ
run_text run = if run.least == run.greatest then decimal run.least else decimal run.least ++ (codes "-" ++ decimal run.greatest)

-- runs with `+` between
unfoldable pub runs_text : List Run → List ℕ
runs_text runs = join_with_byte 43 (map run_text runs)

-- the maximal runs of a set, ascending
unfoldable pub ranges : ℕ → List ℕ
ranges set = runs_text (runs_of (members set))

-- how a set is spelled in format 2: as ranges where it has a member and that text is shorter than the
-- hexadecimal, and as hexadecimal otherwise
unfoldable pub set_spelling : ℕ → List ℕ
set_spelling set = if not (set == 0) && nat_lt (length (ranges set)) (length (hexadecimal set)) then ranges set else hexadecimal set

-- digits, letters, `+` and `-`
abbrev pub is_spelling_byte : ℕ → Bool
is_spelling_byte byte = is_ascii_alphanumeric byte || byte == 43 || byte == 45

-- the longest run of digits, letters, `+` and `-` at a place of a text is the spelling of a set of numbers
-- below 1,024
pub record IsSpellingAt (text : List ℕ) (at set : ℕ) : Type 0 where
  pub small : IsBelow 1024 set
  pub spelled : set_spelling set ≡ take_while is_spelling_byte (drop at text)

-- the runs ascend from a number on, each has a number, and one at least stands between two of them
abbrev pub Ascend : ℕ → List Run → Type 0
Ascend low [] = Unit {0}
Ascend low (run ∷ runs) = (low ≤ run.least) × (run.least ≤ run.greatest) × Ascend (run.greatest + 2) runs

-- a number is in one of the runs
abbrev pub IsIn : ℕ → List Run → Type 0
IsIn s [] = ⊥
IsIn s (run ∷ runs) = ((run.least ≤ s) × (s ≤ run.greatest)) ⊎ IsIn s runs
