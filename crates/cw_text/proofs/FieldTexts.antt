-- Fields that are the text of a number or of a set.
use Rattle.std.proofs.Common.{◌≡◌, ◌≢◌, ℕ, ◌+◌, ◌^◌, ◌<◌, ◌≤◌, ◌⊎◌, Bool, cond, List, [], ◌++◌, length, refl, sym, ap, subst, ◌∙◌, arith, append-nil, inl, inr}
use Rattle.std.specs.Fmt.{decimal}
use Rattle.std.specs.Prelude.{Option, None, Some, codes}
use Rattle.cw_core.specs.Numerals.{hexadecimal, hexadecimal_digits, IsDecimalAt, IsSetAt}
use Rattle.cw_core.specs.Ranges.{set_spelling, IsSpellingAt}
use Rattle.cw_core.specs.StateSet.{IsBelow}
use Rattle.cw_core.proofs.SetTexts.{spelling_within}
use Rattle.cw_core.proofs.Spellings.{decimal_at, set_at_text, one_decimal, one_set}
use Rattle.std.proofs.lemmas.Bool.{ne_eqb, false≢true}
use Rattle.cw_core.proofs.Sets.{has-zero}
use Rattle.cw_text.specs.Lines.{set_text, IsSetIn, Reads}

-- ---- numbers

pub number_stands : (field : List ℕ) (n : ℕ) → n < 2 ^ 64 → decimal n ≡ field → IsDecimalAt field 0 n
number_stands field n small e = decimal_at field 0 n [] small (sym e ∙ sym (append-nil (decimal n))) refl

pub no_number : (field : List ℕ) (most : ℕ) → most < 2 ^ 64 → ((n : ℕ) → IsDecimalAt field 0 n → ⊥) → Reads (λ n. n ≤ most) decimal field None
no_number field most small none = record {
  some = tt;
  none = λ n fits e. none n (number_stands field n (omega (arith, small, fits)) e);
}

pub another_number : (field : List ℕ) (most number after : ℕ) → most < 2 ^ 64 → IsDecimalAt field 0 number → after ≡ 0 + length (decimal number) → (after < length field) ⊎ (most < number)
    → Reads (λ n. n ≤ most) decimal field None
another_number field most number after small stands is differs = record {
  some = tt;
  none = λ n fits e.
      let same : number ≡ n = one_decimal field 0 number n stands (number_stands field n (omega (arith, small, fits)) e) in
      let long : length (decimal number) ≡ length field = ap length (ap decimal same ∙ e) in
      elim differs [ inl short ↦ omega (arith, short, long, is) | inr large ↦ omega (arith, large, same, fits) ];
}

-- ---- sets as hexadecimal

pub mask_stands : (field : List ℕ) (set : ℕ) → IsBelow 1024 set → hexadecimal set ≡ field → IsSetAt field 0 set
mask_stands field set below e = set_at_text field 0 set [] below (sym e ∙ sym (append-nil (hexadecimal set))) refl

wider : (set : ℕ) → IsBelow 512 set → IsBelow 1024 set
wider set below s member = let p = below s member in omega (arith, p)

pub no_mask : (field : List ℕ) → ((set : ℕ) → IsSetAt field 0 set → ⊥) → Reads (IsBelow 512) hexadecimal field None
no_mask field none = record {
  some = tt;
  none = λ set fits e. none set (mask_stands field set (wider set fits) e);
}

pub another_mask : (field : List ℕ) (set after : ℕ) → IsSetAt field 0 set → after ≡ 0 + length (hexadecimal set) → (after < length field) ⊎ (IsBelow 512 set → ⊥)
    → Reads (IsBelow 512) hexadecimal field None
another_mask field set after stands is differs = record {
  some = tt;
  none = λ other fits e.
      let same : set ≡ other = one_set field 0 set other stands (mask_stands field other (wider other fits) e) in
      let long : length (hexadecimal set) ≡ length field = ap length (ap hexadecimal same ∙ e) in
      elim differs [ inl short ↦ omega (arith, short, long, is) | inr high ↦ high (rw same fits) ];
}

-- ---- sets as ranges

pub spelling_stands : (field : List ℕ) (set : ℕ) → IsBelow 1024 set → set_spelling set ≡ field → IsSpellingAt field 0 set
spelling_stands field set below e = rw (sym (append-nil field) ∙ ap (λ (t : List ℕ). t ++ []) (sym e)) (spelling_within [] [] set below refl)

pub no_spelling : (field : List ℕ) → ((set : ℕ) → IsSpellingAt field 0 set → ⊥) → Reads (IsBelow 1024) set_spelling field None
no_spelling field none = record {
  some = tt;
  none = λ set fits e. none set (spelling_stands field set fits e);
}

pub another_spelling : (field : List ℕ) (set after : ℕ) → IsSpellingAt field 0 set → after ≡ 0 + length (set_spelling set) → after < length field → Reads (IsBelow 1024) set_spelling field None
another_spelling field set after stands is short = record {
  some = tt;
  none = λ other fits e.
      let there : IsSpellingAt field 0 other = spelling_stands field other fits e in
      let same : set_spelling set ≡ set_spelling other = stands.spelled ∙ sym there.spelled in
      let long : length (set_spelling set) ≡ length field = ap length (same ∙ e) in
      omega (arith, short, long, is);
}

-- ---- sets in a text of a format

pub in_format_2 : (format : ℕ) (field : List ℕ) (read : Option ℕ) → format ≡ 2 → Reads (IsBelow 1024) set_spelling field read → Reads (IsSetIn format) (set_text format) field read
unfolding set_text
in_format_2 format field read is reads = rw is reads

pub in_format_1 : (format : ℕ) (field : List ℕ) (read : Option ℕ) → format ≢ 2 → Reads (IsBelow 512) hexadecimal field read → Reads (IsSetIn format) (set_text format) field read
unfolding set_text
in_format_1 format field read differs reads = subst (λ (t : Bool). Reads (IsBelow (cond t 1024 512)) (λ (s : ℕ). cond t (set_spelling s) (hexadecimal s)) field read)
    (sym (ne_eqb format 2 differs)) reads

-- the empty set as format 2 spells it
pub the_empty_set : Reads (IsBelow 1024) set_spelling (codes "0x0") (Some 0)
unfolding set_spelling hexadecimal hexadecimal_digits
the_empty_set = record { some = ((λ s member. absurd (false≢true (sym (has-zero s) ∙ member))), refl); none = tt }
