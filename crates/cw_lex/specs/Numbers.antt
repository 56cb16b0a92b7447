-- Numbers: decimal, octal behind a leading zero, hexadecimal behind `0x`, each with a suffix that says its type.
-- Public source: ISO/IEC 9899:2011, 6.4.4.1 (integer constants).
use Rattle.std.specs.Prelude.{ℕ, ◌^◌, Bool, ◌&&◌, nat_eq, nat_lt, List, [], ◌∷◌, length, take, drop, if◌then◌else◌, codes}
use Rattle.std.specs.Char.{digit_value}
use Rattle.std.specs.List.{prefix_len, starts_with, list_all, list_any}
use Rattle.std.specs.Str.{bytes_eq}
use Rattle.std.specs.Str.Parse.{digits_value}
use Rattle.cw_lex.specs.Bytes.{is_digit, is_hexadecimal_digit}

abbrev pub is_hexadecimal : List ℕ → Bool
is_hexadecimal text = starts_with nat_eq text (codes "0x")

abbrev pub base_of : List ℕ → ℕ
base_of text = if is_hexadecimal text then 16 else if starts_with nat_eq text (codes "0") then 8 else 10

-- what follows `0x`, or all of a text that doesn't begin so
abbrev pub body_of : List ℕ → List ℕ
body_of text = if is_hexadecimal text then drop 2 text else text

-- how many digits there are: the longest run
abbrev pub digit_count : List ℕ → ℕ
digit_count text = if is_hexadecimal text then prefix_len is_hexadecimal_digit (drop 2 text) else prefix_len is_digit text

unfoldable pub digits_of : List ℕ → List ℕ
digits_of text = take (digit_count text) (body_of text)

unfoldable pub suffix_of : List ℕ → List ℕ
suffix_of text = drop (digit_count text) (body_of text)

-- `u`, and `l` or `ll`, in either order and case, each part or both left out
abbrev pub suffixes : List (List ℕ)
suffixes =
    [] ∷ codes "u" ∷ codes "U" ∷ codes "l" ∷ codes "L" ∷ codes "ll" ∷ codes "LL"
    ∷ codes "ul" ∷ codes "uL" ∷ codes "ull" ∷ codes "uLL" ∷ codes "Ul" ∷ codes "UL" ∷ codes "Ull" ∷ codes "ULL"
    ∷ codes "lu" ∷ codes "lU" ∷ codes "llu" ∷ codes "llU" ∷ codes "Lu" ∷ codes "LU" ∷ codes "LLu" ∷ codes "LLU" ∷ []

abbrev pub is_suffix : List ℕ → Bool
is_suffix text = list_any (bytes_eq text) suffixes

-- the value of a number's text, its suffix left out
unfoldable pub number_of : List ℕ → ℕ
number_of text = digits_value (base_of text) (digits_of text)

-- Digits of the base, one or more, and a suffix, of a value that 64 bits hold.
unfoldable pub is_number : List ℕ → Bool
is_number text =
    nat_lt 0 (length (digits_of text))
    && list_all (λ digit. nat_lt (digit_value digit) (base_of text)) (digits_of text)
    && is_suffix (suffix_of text)
    && nat_lt (number_of text) (2 ^ 64)
