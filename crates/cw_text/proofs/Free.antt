-- Fields without a separator.
use Rattle.std.proofs.Common.{◌≡◌, ℕ, ◌^◌, ◌<◌, Bool, true, false, eqb, List, [], ◌∷◌, ◌++◌, drop, refl, sym, ap, ◌∙◌, arith, subst}
use Rattle.std.specs.Char.{is_ascii_digit}
use Rattle.std.specs.Fmt.{decimal}
use Rattle.std.specs.List.{All, list_all, take_while}
use Rattle.std.proofs.lemmas.Bool.{false≢true, ne_eqb, eqb-false}
use Rattle.std.proofs.lemmas.List.Elements.{All-nil, All-cons, All-head, All-tail, All-append}
use Rattle.cw_core.specs.Numerals.{hexadecimal, hexadecimal_digits, is_hexadecimal_digit}
use Rattle.cw_core.specs.Ranges.{set_spelling, is_spelling_byte}
use Rattle.cw_core.specs.StateSet.{IsBelow}
use Rattle.cw_core.proofs.SetTexts.{spelling_bytes}
use Rattle.cw_core.proofs.Spellings.{decimal_has_digits, set_within}
use Rattle.cw_text.specs.Lines.{IsFree, joined, set_text, IsSetIn}
use Rattle.cw_lemmas.proofs.Lists.{all_taken as passing}
use Rattle.std.proofs.lemmas.Bool.{and_parts as both_pass}
use Rattle.cw_core.proofs.SetTexts.{digits_spell}

-- bytes that pass a test are free of a separator that doesn't
pub free_from_test : (p : ℕ → Bool) (separator : ℕ) (bytes : List ℕ) → p separator ≡ false → list_all p bytes ≡ true → IsFree separator bytes
free_from_test p separator [] differs all = All-nil (λ (b : ℕ). eqb b separator ≡ false)
free_from_test p separator (b ∷ bytes) differs all = All-cons (λ (x : ℕ). eqb x separator ≡ false) b bytes
    (ne_eqb b separator (λ e. false≢true (sym differs ∙ ap p (sym e) ∙ (both_pass (p b) (list_all p bytes) all).0)))
    (free_from_test p separator bytes differs ((both_pass (p b) (list_all p bytes) all).1))

-- two texts that begin with a line each, and are one text
pub one_line : (separator : ℕ) (a b rest more : List ℕ) → IsFree separator a → IsFree separator b → a ++ (separator ∷ rest) ≡ b ++ (separator ∷ more) → (a ≡ b) × (rest ≡ more)
one_line separator [] [] rest more f g e = (refl, ap tail_of e)
  where
    tail_of : List ℕ → List ℕ
    tail_of [] = []
    tail_of (x ∷ xs) = xs
one_line separator [] (y ∷ b) rest more f g e = absurd (eqb-false y separator (All-head (λ (x : ℕ). eqb x separator ≡ false) y b g) (sym (ap (λ (t : List ℕ). first_of_bytes t) e)))
  where
    first_of_bytes : List ℕ → ℕ
    first_of_bytes [] = 0
    first_of_bytes (x ∷ xs) = x
one_line separator (x ∷ a) [] rest more f g e = absurd (eqb-false x separator (All-head (λ (x : ℕ). eqb x separator ≡ false) x a f) (ap (λ (t : List ℕ). first_of_bytes t) e))
  where
    first_of_bytes : List ℕ → ℕ
    first_of_bytes [] = 0
    first_of_bytes (x ∷ xs) = x
one_line separator (x ∷ a) (y ∷ b) rest more f g e =
    let heads : x ≡ y = ap first_byte e in
    let tails : a ++ (separator ∷ rest) ≡ b ++ (separator ∷ more) = ap other_bytes e in
    let p = one_line separator a b rest more (All-tail (λ (z : ℕ). eqb z separator ≡ false) x a f) (All-tail (λ (z : ℕ). eqb z separator ≡ false) y b g) tails in
    (rw (heads, p.0) refl, p.1)
  where
    first_byte : List ℕ → ℕ
    first_byte [] = 0
    first_byte (z ∷ zs) = z

    other_bytes : List ℕ → List ℕ
    other_bytes [] = []
    other_bytes (z ∷ zs) = zs

-- a text without LF begins with no line
pub no_line : (separator : ℕ) (text a rest : List ℕ) → IsFree separator text → text ≡ a ++ (separator ∷ rest) → ⊥
no_line separator text [] rest free e = eqb-false separator separator (All-head (λ (b : ℕ). eqb b separator ≡ false) separator rest (subst (IsFree separator) e free)) refl
no_line separator text (x ∷ a) rest free e = no_line separator (a ++ (separator ∷ rest)) a rest (All-tail (λ (b : ℕ). eqb b separator ≡ false) x (a ++ (separator ∷ rest)) (subst (IsFree separator) e free)) refl

pub decimal_free : (separator n : ℕ) → is_ascii_digit separator ≡ false → n < 2 ^ 64 → IsFree separator (decimal n)
decimal_free separator n differs small = free_from_test is_ascii_digit separator (decimal n) differs (decimal_has_digits n small)

mask_bytes : (set : ℕ) → IsBelow 1024 set → list_all is_spelling_byte (hexadecimal set) ≡ true
unfolding hexadecimal
mask_bytes set below =
    let stands = set_within [] [] set below refl in
    let digits : hexadecimal_digits set ≡ take_while is_hexadecimal_digit (hexadecimal_digits set ++ []) = ap (drop 2) stands.spelled in
    digits_spell (hexadecimal_digits set) (rw (sym digits) at (passing is_hexadecimal_digit (hexadecimal_digits set ++ [])))

-- a separator that is no digit, no letter, no `+` and no `-` isn't in the text of a set
pub set_text_free : (separator format set : ℕ) → is_spelling_byte separator ≡ false → IsSetIn format set → IsFree separator (set_text format set)
unfolding set_text
set_text_free separator format set differs fits = by_format (eqb format 2) refl
  where
    by_format : (t : Bool) → eqb format 2 ≡ t → IsFree separator (set_text format set)
    by_format true is = rw is (free_from_test is_spelling_byte separator (set_spelling set) differs (spelling_bytes set (rw is at fits)))
    by_format false is =
        let narrow : IsBelow 512 set = rw is at fits in
        rw is (free_from_test is_spelling_byte separator (hexadecimal set) differs (mask_bytes set (λ s member. let p = narrow s member in omega (arith, p))))

-- fields without a byte, joined by another
pub joined_free : (separator other : ℕ) → eqb separator other ≡ false → (fields : List (List ℕ)) → All (IsFree other) fields → IsFree other (joined separator fields)
joined_free separator other differs [] free = All-nil (λ (b : ℕ). eqb b other ≡ false)
joined_free separator other differs (field ∷ []) free = All-head (IsFree other) field [] free
joined_free separator other differs (field ∷ next ∷ fields) free =
    All-append (λ (b : ℕ). eqb b other ≡ false) field (separator ∷ joined separator (next ∷ fields)) (All-head (IsFree other) field (next ∷ fields) free)
    (All-cons (λ (b : ℕ). eqb b other ≡ false) separator (joined separator (next ∷ fields)) differs (joined_free separator other differs (next ∷ fields) (All-tail (IsFree other) field (next ∷ fields) free)))
