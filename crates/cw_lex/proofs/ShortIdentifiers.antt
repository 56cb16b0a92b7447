-- Keywords have two bytes at least.
use Rattle.std.proofs.Common.{◌≡◌, ℕ, ◌≤◌, Bool, true, false, eqb, List, [], ◌∷◌, length, get_or, refl, arith}
use Rattle.std.specs.List.{list_any, take_while}
use Rattle.std.proofs.lemmas.Bool.{or_left}
use Rattle.std.specs.Str.{bytes_eq}
use Rattle.cw_lex.specs.declared.tokens.TokenKind.TheVariants as kind
use Rattle.cw_lex.specs.declared.front.Front.TheVariants as front
use Rattle.cw_lex.specs.Bytes.{is_letter, is_digit, is_name_byte}
use Rattle.cw_lex.specs.Fronts.{identifier}
use Rattle.cw_lex.specs.Keywords.{keywords, is_keyword}

are_long : List (List ℕ) → Bool
are_long [] = true
are_long ([] ∷ texts) = false
are_long ((b ∷ []) ∷ texts) = false
are_long ((b ∷ c ∷ rest) ∷ texts) = are_long texts

-- a text of one byte is none of them
none_of_one : (byte : ℕ) (texts : List (List ℕ)) → are_long texts ≡ true → list_any (bytes_eq (byte ∷ [])) texts ≡ false
unfolding are_long
none_of_one byte [] long = refl
none_of_one byte ([] ∷ texts) long = absurd cc
none_of_one byte ((b ∷ []) ∷ texts) long = absurd cc
none_of_one byte ((b ∷ c ∷ rest) ∷ texts) long = by_test (eqb byte b) refl (none_of_one byte texts long)
  where
    by_test : (t : Bool) → eqb byte b ≡ t → list_any (bytes_eq (byte ∷ [])) texts ≡ false → list_any (bytes_eq (byte ∷ [])) ((b ∷ c ∷ rest) ∷ texts) ≡ false
    by_test true e later = rw e later
    by_test false e later = rw e later

pub short_identifier : (text : List ℕ) → length text ≤ 1 → is_keyword text ≡ false
unfolding is_keyword are_long
short_identifier [] short = refl
short_identifier (byte ∷ []) short = none_of_one byte keywords refl
short_identifier (byte ∷ c ∷ rest) short = absurd (omega (arith, short))

-- a letter that no byte of a name follows is a name
pub one_letter_name : (bytes : List ℕ) → 2 ≤ length bytes → is_letter (get_or bytes 0 0) ≡ true → is_name_byte (get_or bytes 1 0) ≡ false
    → front.Token kind.Name 1 ≡ identifier (take_while is_name_byte bytes)
one_letter_name [] long letter ends = absurd (omega (arith, long))
one_letter_name (b ∷ []) long letter ends = absurd (omega (arith, long))
one_letter_name (b ∷ c ∷ bs) long letter ends =
    let first : is_name_byte b ≡ true = or_left (is_letter b) (is_digit b) letter in
    let text : take_while is_name_byte (b ∷ c ∷ bs) ≡ b ∷ [] = rw (first, ends) refl in
    rw (text, short_identifier (b ∷ []) (omega arith)) refl
