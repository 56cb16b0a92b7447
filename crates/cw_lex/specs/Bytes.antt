-- Kinds of bytes. Public source: ISO/IEC 9899:2011, 5.2.1 (the source's characters), 6.4 (white space), 6.4.2.1 (names).
use Rattle.std.specs.Prelude.{ℕ, nat_le, ◌==◌, Bool, not, ◌&&◌, ◌||◌}

-- space, TAB, LF, VT, FF, CR
abbrev pub is_white : ℕ → Bool
is_white b = b == 32 || (nat_le 9 b && nat_le b 13)

-- space and TAB
abbrev pub is_blank : ℕ → Bool
is_blank b = b == 32 || b == 9

-- every byte but LF
abbrev pub is_line_byte : ℕ → Bool
is_line_byte b = not (b == 10)

-- 'a' to 'z', 'A' to 'Z' and '_'
abbrev pub is_letter : ℕ → Bool
is_letter b = (nat_le 97 b && nat_le b 122) || (nat_le 65 b && nat_le b 90) || b == 95

-- '0' to '9'
abbrev pub is_digit : ℕ → Bool
is_digit b = nat_le 48 b && nat_le b 57

-- '0' to '7'
abbrev pub is_octal_digit : ℕ → Bool
is_octal_digit b = nat_le 48 b && nat_le b 55

-- '0' to '9', 'a' to 'f' and 'A' to 'F'
abbrev pub is_hexadecimal_digit : ℕ → Bool
is_hexadecimal_digit b = is_digit b || (nat_le 97 b && nat_le b 102) || (nat_le 65 b && nat_le b 70)

-- letters, digits and '_'
abbrev pub is_name_byte : ℕ → Bool
is_name_byte b = is_letter b || is_digit b

-- letters, digits, '_' and '.'
abbrev pub is_number_byte : ℕ → Bool
is_number_byte b = is_name_byte b || b == 46
