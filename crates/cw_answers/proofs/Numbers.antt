-- Signed numbers as fields.
use Rattle.std.proofs.Common.{◌≡◌, ◌≢◌, ◌⊎◌, ℕ, suc, ◌-◌, ◌^◌, ◌<◌, cond, eqb, ℤ, pos, negsuc, List, [], ◌∷◌, length, false, Option, Some, None, refl, sym, ap, ◌∙◌, arith}
use Rattle.std.specs.List.{list_all}
use Rattle.std.specs.Char.{is_ascii_digit}
use Rattle.std.specs.Fmt.{decimal, signed_decimal}
use Rattle.std.specs.Str.Parse.{digits_value}
use Rattle.std.proofs.lemmas.Bool.{false≢true, ne_eqb, and_parts}
use Rattle.std.proofs.lemmas.Fmt.{decimal_is_IsNumeral, decimal_injective, decimal_nonempty}
use Rattle.cw_core.proofs.Spellings.{decimal_has_digits}
use Rattle.cw_text.specs.Lines.{IsFree, Reads}
use Rattle.cw_text.proofs.Free.{decimal_free}
use Rattle.cw_text_lines.proofs.Telling.{below_or_not}
use Rattle.std.proofs.lemmas.List.Elements.{All-cons}
use Rattle.cw_answers.specs.AnswerLines.{FitsValue}
use Rattle.cw_answers.specs.Reading.{IsNegative, unsigned}

abbrev tail_of : List ℕ → List ℕ
tail_of [] = []
tail_of (b ∷ bs) = bs

abbrev head_of : List ℕ → ℕ
head_of [] = 0
head_of (b ∷ bs) = b

no_decimal : (n : ℕ) → n < 2 ^ 64 → decimal n ≢ []
no_decimal n small e = let some = decimal_nonempty n small in omega (arith, some, ap length e)

-- a decimal begins with no sign
no_sign : (n : ℕ) (bs : List ℕ) → n < 2 ^ 64 → decimal n ≢ 45 ∷ bs
no_sign n bs small e = let digits = and_parts (is_ascii_digit 45) (list_all is_ascii_digit bs) (sym (ap (list_all is_ascii_digit) e) ∙ decimal_has_digits n small) in false≢true digits.0

pub value_free : (separator : ℕ) → is_ascii_digit separator ≡ false → eqb 45 separator ≡ false → (z : ℤ) → FitsValue z → IsFree separator (signed_decimal z)
value_free separator differs sign (pos n) fits = decimal_free separator n differs (omega (arith, fits))
value_free separator differs sign (negsuc n) fits = All-cons (λ (b : ℕ). eqb b separator ≡ false) 45 (decimal (suc n)) sign (decimal_free separator (suc n) differs (omega (arith, fits)))

-- ---- a number from its field

abbrev pub value_from : List ℕ → ℤ
value_from [] = pos 0
value_from (b ∷ bs) = cond (eqb b 45) (negsuc (digits_value 10 bs - 1)) (pos (digits_value 10 (b ∷ bs)))

plain : (field : List ℕ) → ((bs : List ℕ) → field ≢ 45 ∷ bs) → field ≢ [] → value_from field ≡ pos (digits_value 10 field)
plain [] unsigned some = absurd (some refl)
plain (b ∷ bs) unsigned some = ap (λ t. cond t (negsuc (digits_value 10 bs - 1)) (pos (digits_value 10 (b ∷ bs)))) (ne_eqb b 45 (λ e. unsigned bs (ap (λ c. c ∷ bs) e)))

pub value_back : (z : ℤ) → FitsValue z → value_from (signed_decimal z) ≡ z
value_back (pos n) fits =
    let small : n < 2 ^ 64 = omega (arith, fits) in
    plain (decimal n) (λ bs. no_sign n bs small) (no_decimal n small) ∙ ap pos (decimal_is_IsNumeral n small).1
value_back (negsuc n) fits =
    let small : suc n < 2 ^ 64 = omega (arith, fits) in
    let one : suc n - 1 ≡ n = omega arith in
    ap (λ (k : ℕ). negsuc (k - 1)) (decimal_is_IsNumeral (suc n) small).1 ∙ ap negsuc one

pub value_or_not : (z : ℤ) → FitsValue z ⊎ (FitsValue z → ⊥)
value_or_not (pos n) = below_or_not n (2 ^ 63)
value_or_not (negsuc n) = below_or_not n (2 ^ 63)

-- ---- what the reader answers

pub no_bytes : (field : List ℕ) → length field ≡ 0 → Reads FitsValue signed_decimal field None
no_bytes field empty = record { some = tt; none = by }
  where
    by : (z : ℤ) → FitsValue z → signed_decimal z ≢ field
    by (pos n) fits e = let some = decimal_nonempty n (omega (arith, fits)) in omega (arith, some, ap length e, empty)
    by (negsuc n) fits e = omega (arith, ap length e, empty)

pub with_sign : (field digits : List ℕ) (first : ℕ) (read : Option ℤ) → field ≡ first ∷ digits → first ≡ 45 → Reads IsNegative unsigned digits read → Reads FitsValue signed_decimal field read
with_sign field digits first (Some (pos n)) e sign reads = absurd reads.some.0
with_sign field digits first (Some (negsuc n)) e sign reads = record { some = (reads.some.0, ap (λ t. 45 ∷ t) reads.some.1 ∙ ap (λ (b : ℕ). b ∷ digits) (sym sign) ∙ sym e); none = tt }
with_sign field digits first None e sign reads = record { some = tt; none = by }
  where
    by : (z : ℤ) → FitsValue z → signed_decimal z ≢ field
    by (pos n) fits is = no_sign n digits (omega (arith, fits)) (is ∙ e ∙ ap (λ (b : ℕ). b ∷ digits) sign)
    by (negsuc n) fits is = reads.none (negsuc n) fits (ap tail_of (is ∙ e))

pub size_zero : (digits : List ℕ) (size : ℕ) → size ≡ 0 → decimal size ≡ digits → Reads IsNegative unsigned digits None
size_zero digits size zeroed e = record { some = tt; none = by }
  where
    by : (z : ℤ) → IsNegative z → unsigned z ≢ digits
    by (pos n) fits is = fits
    by (negsuc n) fits is = let same = decimal_injective (suc n) size (omega (arith, fits)) (omega (arith, zeroed)) (is ∙ sym e) in omega (arith, same, zeroed)
