-- Characters and strings. Public source: ISO/IEC 9899:2011, 6.4.4.4 (character constants and escapes), 6.4.5 (string literals).
use Rattle.std.specs.Prelude.{ℕ, zero, suc, ◌+◌, ◌-◌, nat_le, ◌==◌, ◌||◌, Option, Some, None, List, [], ◌∷◌, length, take, drop, if◌then◌else◌, codes, nat_eq}
use Rattle.std.specs.Option.{option_map}
use Rattle.std.specs.List.{take_while, starts_with}
use Rattle.std.specs.Str.Parse.{digits_value}
use Rattle.cw_lex.specs.Bytes.{is_octal_digit, is_hexadecimal_digit}

-- what one byte behind a backslash stands for: `'`, `"`, `?` and `\` for themselves, and `a b f n r t v`
unfoldable pub simple_escape : ℕ → Option ℕ
simple_escape b =
    if b == 39 then Some 39
    else if b == 34 then Some 34
    else if b == 63 then Some 63
    else if b == 92 then Some 92
    else if b == 97 then Some 7
    else if b == 98 then Some 8
    else if b == 102 then Some 12
    else if b == 110 then Some 10
    else if b == 114 then Some 13
    else if b == 116 then Some 9
    else if b == 118 then Some 11
    else None

-- a value and how many bytes spell it
abbrev pub Spelled : Type 0
Spelled = ℕ × ℕ

abbrev pub longer : ℕ → Option Spelled → Option Spelled
longer more spelled = option_map (λ x. (x.0, x.1 + more)) spelled

-- the digits of an escape, one at least, of a value that a byte holds
abbrev pub spelled : ℕ → List ℕ → Option Spelled
spelled base [] = None
spelled base (b ∷ bs) = if nat_le (digits_value base (b ∷ bs)) 255 then Some (digits_value base (b ∷ bs), length (b ∷ bs)) else None

-- What stands behind a backslash: octal digits, as many as stand there but at most three; `x` and hexadecimal digits, at most two;
-- or a byte of the simple escapes.
unfoldable pub escape_at : List ℕ → Option Spelled
escape_at [] = None
escape_at (b ∷ bs) =
    if is_octal_digit b then spelled 8 (take_while is_octal_digit (take 3 (b ∷ bs)))
    else if b == 120 then longer 1 (spelled 16 (take_while is_hexadecimal_digit (take 2 bs)))
    else option_map (λ value. (value, 1)) (simple_escape b)

-- The item at the front of a character or string between such quotes: a byte but the quote, the backslash and LF, or an escape.
unfoldable pub item_at : ℕ → List ℕ → Option Spelled
item_at quote [] = None
item_at quote (b ∷ bs) =
    if b == quote || b == 10 then None
    else if b == 92 then longer 1 (escape_at bs)
    else Some (b, 1)

-- from behind the quote of a character up to and with the one that closes it: how many bytes, where one item stands between them
abbrev pub closed : List ℕ → Option Spelled → Option ℕ
closed bs None = None
closed bs (Some item) = if starts_with nat_eq (drop item.1 bs) (codes "'") then Some (item.1 + 1) else None

unfoldable pub character_len : List ℕ → Option ℕ
character_len bs = closed bs (item_at 39 bs)

abbrev pub more_by : ℕ → Option ℕ → Option ℕ
more_by more n = option_map (λ k. k + more) n

-- From behind the quote of a string up to and with the one that closes it: how many bytes, where items stand between them one
-- after the other. The first number says how many bytes of an item are still to be passed.
unfoldable pub text_len : ℕ → List ℕ → Option ℕ
text_len skip [] = None
text_len (suc skip) (b ∷ bs) = more_by 1 (text_len skip bs)
text_len zero (b ∷ bs) = if b == 34 then Some 1 else elim (item_at 34 (b ∷ bs)) [
  | None ↦ None
  | Some item ↦ more_by 1 (text_len (item.1 - 1) bs)
]

-- the byte that a character's text stands for, its quotes included in the text
unfoldable pub character_of : List ℕ → ℕ
character_of text = elim (item_at 39 (drop 1 text)) [ None ↦ 0 | Some item ↦ item.0 ]
