-- Numbers and sets as text.
use Rattle.std.specs.Prelude.{◌≡◌, ℕ, ◌+◌, ◌^◌, ◌<◌, ◌==◌, ◌||◌, Bool, if◌then◌else◌, List, ◌++◌, map, take, drop, codes}
use Rattle.std.specs.Char.{digit_char, is_ascii_digit}
use Rattle.std.specs.Fmt.{decimal}
use Rattle.std.specs.Int.{is_in_range}
use Rattle.std.specs.Int.Digits.{digits_of}
use Rattle.std.specs.List.{take_while}
use Rattle.cw_core.specs.StateSet.{IsBelow}

-- '0' to '9' and 'a' to 'f'
abbrev pub is_hexadecimal_digit : ℕ → Bool
is_hexadecimal_digit byte = is_ascii_digit byte || is_in_range 97 102 byte

-- the shortest lower-case hexadecimal of a number
unfoldable pub hexadecimal_digits : ℕ → List ℕ
hexadecimal_digits number = if number == 0 then codes "0" else map digit_char (digits_of 16 number)

-- `0x` and the shortest lower-case hexadecimal of a number: how a set is spelled, in the form of C's
-- hexadecimal constants (ISO/IEC 9899:2011, 6.4.4.1)
unfoldable pub hexadecimal : ℕ → List ℕ
hexadecimal number = codes "0x" ++ hexadecimal_digits number

-- the longest run of digits at a place of a text is the decimal of a number below 2 ^ 64
pub record IsDecimalAt (text : List ℕ) (at number : ℕ) : Type 0 where
  pub small : number < 2 ^ 64
  pub spelled : decimal number ≡ take_while is_ascii_digit (drop at text)

-- two bytes at a place of a text and the longest run of hexadecimal digits after them are the spelling
-- of a set of numbers below 1,024
pub record IsSetAt (text : List ℕ) (at set : ℕ) : Type 0 where
  pub small : IsBelow 1024 set
  pub spelled : hexadecimal set ≡ take 2 (drop at text) ++ take_while is_hexadecimal_digit (drop (at + 2) text)
