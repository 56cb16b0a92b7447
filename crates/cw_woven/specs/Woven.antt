-- Which bytes are spelled as a mark.
use Rattle.std.specs.Prelude.{◌≡◌, ℕ, ◌^◌, ◌<◌, ◌⊎◌, List, ◌++◌, IsTrue, codes}
use Rattle.std.specs.Fmt.{decimal}
use Rattle.cw_rights.specs.Valid.{is_name}

-- the decimal of a number of 32 bits
abbrev pub IsNumber : List ℕ → Type 0
IsNumber bytes = (n : ℕ) × (n < 2 ^ 32) × (bytes ≡ decimal n)

-- The spellings of marks: a number alone, or a number and a name.
abbrev pub IsNumbered : (before after bytes : List ℕ) → Type 0
IsNumbered before after bytes = (n : ℕ) × (n < 2 ^ 32) × (bytes ≡ before ++ (decimal n ++ after))

abbrev pub IsNamed : (before bytes : List ℕ) → Type 0
IsNamed before bytes = (n : ℕ) × (name : List ℕ) × (n < 2 ^ 32) × IsTrue (is_name name) × (bytes ≡ before ++ (decimal n ++ (codes "," ++ (name ++ codes ")"))))

-- a mark with the seam's number, and one that has a name too: whatever the seam is, and whatever descriptor or result has the name
abbrev pub IsNumberedMark : List ℕ → Type 0
IsNumberedMark bytes =
    IsNumbered (codes "CW_ENTRY(") (codes ");") bytes ⊎ (IsNumbered (codes "CW_LABEL(") (codes ")") bytes ⊎ (IsNumbered (codes "CW_CLOSE(") (codes ")") bytes ⊎ IsNumbered (codes "CW_CALL(") (codes ")") bytes))

abbrev pub IsNamedMark : List ℕ → Type 0
IsNamedMark bytes = IsNamed (codes "CW_OPEN(") bytes ⊎ IsNamed (codes "CW_CALLV(") bytes

abbrev pub IsSpelling : List ℕ → Type 0
IsSpelling bytes = IsNumberedMark bytes ⊎ IsNamedMark bytes
