-- What stands at the front of some bytes: the longest front of its kind. Public source: ISO/IEC 9899:2011, 6.4 (the longest
-- sequence is one token; white space), 6.4.9 (comments), 6.10.2 (`#include`).
use Rattle.std.specs.Prelude.{ℕ, ◌+◌, ◌<◌, ◌≤◌, nat_eq, ◌==◌, Bool, Option, Some, None, List, [], ◌∷◌, length, drop, if◌then◌else◌, codes}
use Rattle.std.specs.List.{prefix_len, starts_with, take_while}
use Rattle.std.specs.Str.{bytes_eq}
use Rattle.cw_lex.specs.declared.tokens.TokenKind.{TokenKind}
use Rattle.cw_lex.specs.declared.tokens.TokenKind.TheVariants as kind
use Rattle.cw_lex.specs.declared.front.Defect.TheVariants as defect
use Rattle.cw_lex.specs.declared.front.Front.{Front}
use Rattle.cw_lex.specs.declared.front.Front.TheVariants as front
use Rattle.cw_lex.specs.Bytes.{is_white, is_blank, is_line_byte, is_letter, is_digit, is_name_byte, is_number_byte}
use Rattle.cw_lex.specs.Keywords.{is_keyword}
use Rattle.cw_lex.specs.Numbers.{is_number}
use Rattle.cw_lex.specs.Characters.{more_by, character_len, text_len}
use Rattle.cw_lex.specs.Punctuators.{punctuator_len}

-- a name or a keyword
abbrev pub identifier : List ℕ → Front
identifier text = if is_keyword text then front.Token kind.Keyword (length text) else front.Token kind.Name (length text)

abbrev pub number : List ℕ → Front
number text = if is_number text then front.Token kind.Number (length text) else front.Fault defect.Number

-- a character or a string, given how many bytes it has behind its first quote
abbrev pub quoted : TokenKind → Option ℕ → Front
quoted k None = front.Fault defect.OpenString
quoted k (Some n) = front.Token k (n + 1)

-- how many bytes there are up to and with the first `*/`
abbrev pub to_close : List ℕ → Option ℕ
to_close [] = None
to_close (b ∷ bs) = if starts_with nat_eq (b ∷ bs) (codes "*/") then Some 2 else more_by 1 (to_close bs)

-- a comment, given how many bytes it has behind `/*`
abbrev pub comment : Option ℕ → Front
comment None = front.Fault defect.OpenComment
comment (Some n) = front.Gap (n + 2)

-- whether blanks and the identifier `include` stand there
abbrev pub is_include : List ℕ → Bool
is_include bs = bytes_eq (take_while is_name_byte (drop (prefix_len is_blank bs) bs)) (codes "include")

-- the bytes up to LF or the end
abbrev pub line : List ℕ → Front
line bs = front.Gap (prefix_len is_line_byte bs)

-- `#`, given whether no token stands before it on its line
abbrev pub directive : Bool → List ℕ → Front
directive fresh bs = if fresh then (if is_include (drop 1 bs) then line bs else front.Fault defect.Directive) else front.Fault defect.BadByte

abbrev pub punctuator : ℕ → Front
punctuator n = if n == 0 then front.Fault defect.BadByte else front.Token kind.Punctuation n

-- What stands at the front, given whether no token stands before it on its line.
unfoldable pub front_at : Bool → List ℕ → Front
front_at fresh [] = front.Gap 0
front_at fresh (b ∷ bs) =
    if is_white b then front.Gap (prefix_len is_white (b ∷ bs))
    else if is_letter b then identifier (take_while is_name_byte (b ∷ bs))
    else if is_digit b then number (take_while is_number_byte (b ∷ bs))
    else if b == 39 then quoted kind.Character (character_len bs)
    else if b == 34 then quoted kind.Text (text_len 0 bs)
    else if b == 35 then directive fresh (b ∷ bs)
    else if starts_with nat_eq (b ∷ bs) (codes "/*") then comment (to_close (drop 2 (b ∷ bs)))
    else if starts_with nat_eq (b ∷ bs) (codes "//") then line (b ∷ bs)
    else punctuator (punctuator_len (b ∷ bs))

-- how many bytes a front takes
abbrev pub size : Front → ℕ
size (front.Gap n) = n
size (front.Token k n) = n
size (front.Fault d) = 0

-- a front takes bytes, and no more than there are
abbrev pub IsWithin : ℕ → Front → Type 0
IsWithin len (front.Gap n) = (0 < n) × (n ≤ len)
IsWithin len (front.Token k n) = (0 < n) × (n ≤ len)
IsWithin len (front.Fault d) = Unit {0}
