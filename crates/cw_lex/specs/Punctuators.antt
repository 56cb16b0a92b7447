-- Punctuation, and the marker of woven texts. Public source: ISO/IEC 9899:2011, 6.4.6 (punctuators), 6.4 (the longest one counts).
use Rattle.std.specs.Prelude.{◌≡◌, ℕ, ◌<◌, nat_eq, Bool, true, false, ◌||◌, List, [], ◌∷◌, drop, if◌then◌else◌, codes}
use Rattle.std.specs.List.{starts_with, list_any}

abbrev pub three_byte_punctuators : List (List ℕ)
three_byte_punctuators = codes "<<=" ∷ codes ">>=" ∷ []

abbrev pub two_byte_punctuators : List (List ℕ)
two_byte_punctuators =
    codes "<<" ∷ codes ">>" ∷ codes "<=" ∷ codes ">=" ∷ codes "==" ∷ codes "!=" ∷ codes "&&" ∷ codes "||" ∷ codes "++" ∷ codes "--"
    ∷ codes "+=" ∷ codes "-=" ∷ codes "*=" ∷ codes "/=" ∷ codes "%=" ∷ codes "&=" ∷ codes "|=" ∷ codes "^=" ∷ []

abbrev pub one_byte_punctuators : List (List ℕ)
one_byte_punctuators =
    codes "(" ∷ codes ")" ∷ codes "[" ∷ codes "]" ∷ codes "{" ∷ codes "}" ∷ codes ";" ∷ codes "," ∷ codes ":" ∷ codes "=" ∷ codes "+"
    ∷ codes "-" ∷ codes "*" ∷ codes "/" ∷ codes "%" ∷ codes "&" ∷ codes "|" ∷ codes "^" ∷ codes "~" ∷ codes "!" ∷ codes "<"
    ∷ codes ">" ∷ []

-- whether one of these begins the bytes
abbrev pub begins : List (List ℕ) → List ℕ → Bool
begins punctuators bs = list_any (starts_with nat_eq bs) punctuators

-- the length of the longest punctuation that begins the bytes, and 0 where none does
unfoldable pub punctuator_len : List ℕ → ℕ
punctuator_len bs =
    if begins three_byte_punctuators bs then 3
    else if begins two_byte_punctuators bs then 2
    else if begins one_byte_punctuators bs then 1
    else 0

-- What begins and ends the parts that are woven into a source: no source may have it, not even in a comment or a string.
abbrev pub is_marker : List ℕ → Bool
is_marker bs = starts_with nat_eq bs (codes "cw{*") || starts_with nat_eq bs (codes "*}cw")

-- the least place of a source where a marker begins
abbrev pub IsLeastMarker : List ℕ → ℕ → Type 0
IsLeastMarker source at = (is_marker (drop at source) ≡ true) × ((k : ℕ) → k < at → is_marker (drop k source) ≡ false)

abbrev pub HasNoMarker : List ℕ → Type 0
HasNoMarker source = (k : ℕ) → is_marker (drop k source) ≡ false
