-- One hexadecimal digit as a byte.
use Rattle.std.proofs.Common.{◌≡◌, ◌≢◌, ℕ, ◌+◌, ◌-◌, ◌<◌, ◌≤◌, Bool, true, false, leb, ◌||◌, refl, sym, ap, ◌∙◌, arith, inl, inr}
use Rattle.std.specs.Char.{digit_value, digit_char}
use Rattle.std.specs.Int.{is_in_range}
use Rattle.std.proofs.Math.Bool.{or-true}
use Rattle.std.proofs.lemmas.Bool.{leb-true, le-leb, lt-ltb, le-ltb, cases_lt}
use Rattle.std.proofs.lemmas.Str.{digit_value_digit, digit_value-digit_char}
use Rattle.cw_core.specs.Numerals.{is_hexadecimal_digit}
use Rattle.std.proofs.lemmas.Bool.{and_parts as both_from_and}

-- the test of a range, and the range
pub bounds : (lo hi b : ℕ) → is_in_range lo hi b ≡ true → (lo ≤ b) × (b ≤ hi)
bounds lo hi b e = let p = both_from_and (leb lo b) (leb b hi) e in (leb-true lo b p.0, leb-true b hi p.1)

-- what a digit's byte is: '0' to '9', or 'a' to 'f'
data IsGlyph (b : ℕ) : Type 0 where
  figure : 48 ≤ b → b ≤ 57 → IsGlyph b
  letter : 97 ≤ b → b ≤ 102 → IsGlyph b

glyph : (b : ℕ) → is_hexadecimal_digit b ≡ true → IsGlyph b
glyph b e = by_test (is_in_range 48 57 b) (is_in_range 97 102 b) refl refl e
  where
    by_test : (s t : Bool) → is_in_range 48 57 b ≡ s → is_in_range 97 102 b ≡ t → (s || t) ≡ true → IsGlyph b
    by_test true t p q e = let r = bounds 48 57 b p in figure r.0 r.1
    by_test false true p q e = let r = bounds 97 102 b q in letter r.0 r.1
    by_test false false p q e = absurd (cc)

value_figure : (b : ℕ) → 48 ≤ b → b ≤ 57 → digit_value b ≡ b - 48
value_figure b lo hi = let p = digit_value_digit b (lo, hi) in omega (arith, p, lo)

value_letter : (b : ℕ) → 97 ≤ b → b ≤ 102 → digit_value b ≡ b - 87
value_letter b lo hi =
    rw (le-ltb b 48 (omega (arith, lo)), le-ltb b 58 (omega (arith, lo)), le-ltb b 65 (omega (arith, lo)), le-ltb b 91 (omega (arith, lo)), le-ltb b 97 lo, lt-ltb b 123 (omega (arith, hi))) refl

pub digit_value-lt : (b : ℕ) → is_hexadecimal_digit b ≡ true → digit_value b < 16
digit_value-lt b e =
    elim (glyph b e) [
      | figure lo hi ↦ let p = value_figure b lo hi in omega (arith, p, lo, hi)
      | letter lo hi ↦ let p = value_letter b lo hi in omega (arith, p, lo, hi)
    ]

pub digit_char-digit_value : (b : ℕ) → is_hexadecimal_digit b ≡ true → digit_char (digit_value b) ≡ b
digit_char-digit_value b e =
    elim (glyph b e) [
      | figure lo hi ↦ let p = value_figure b lo hi in rw (p, lt-ltb (b - 48) 10 (omega (arith, lo, hi))) (omega (arith, lo))
      | letter lo hi ↦ let p = value_letter b lo hi in rw (p, le-ltb (b - 87) 10 (omega (arith, lo))) (omega (arith, lo))
    ]

pub is_digit-digit_char : (d : ℕ) → d < 16 → is_hexadecimal_digit (digit_char d) ≡ true
is_digit-digit_char d lt =
    elim (cases_lt d 10) [
      | inl low ↦ rw (lt-ltb d 10 low, le-leb 48 (48 + d) (omega arith), le-leb (48 + d) 57 (omega arith)) refl
      | inr high ↦ rw (le-ltb d 10 high, le-leb 97 (87 + d) (omega arith), le-leb (87 + d) 102 (omega arith)) (or-true _)
    ]

-- only the digit 0 is written as '0'
pub zero_from_char : (d : ℕ) → d < 16 → digit_char d ≡ 48 → d ≡ 0
zero_from_char d lt e = sym (digit_value-digit_char d (omega (arith, lt))) ∙ ap digit_value e

-- only '0' has the value 0
pub char_from_zero : (b : ℕ) → is_hexadecimal_digit b ≡ true → b ≢ 48 → 0 < digit_value b
char_from_zero b e ne =
    elim (glyph b e) [
      | figure lo hi ↦ let p = value_figure b lo hi in omega (arith, p, lo, hi, ne)
      | letter lo hi ↦ let p = value_letter b lo hi in omega (arith, p, lo, hi)
    ]
