-- Decimals and the digits that they have.
use Rattle.std.proofs.Common.{◌≡◌, ◌≢◌, ℕ, zero, suc, ◌+◌, ◌^◌, ◌<◌, ◌≤◌, Bool, true, false, cond, eqb, List, [], ◌∷◌, length, get_or, drop, refl, sym, ap, ◌∙◌, arith}
use Rattle.std.specs.Char.{digit_value, is_ascii_digit}
use Rattle.std.specs.Fmt.{decimal}
use Rattle.std.specs.List.{take_while}
use Rattle.std.specs.Str.Parse.{AllDigits, digits_value}
use Rattle.std.proofs.lemmas.Str.{digit_value_digit}
use Rattle.std.specs.Prelude.{Option, Some, None, IfSome, IfNone}
use Rattle.std.proofs.lemmas.Fmt.{decimal_nonempty, first_decimal, decimal_digit, decimal-digits_value, digits_value-decimal, decimal_injective}
use Rattle.cw_core.specs.Numerals.{IsDecimalAt}
use Rattle.cw_core.proofs.Glyphs.{bounds}
use Rattle.std.proofs.lemmas.List.Sums.{take_while-cons}
use Rattle.std.proofs.lemmas.Str.Parse.{IsNumeralModel}

pub own : IsNumeralModel (AllDigits 10) (digits_value 10)
own = record { to = λ _ h. h; from = λ _ h. h; same = λ _ _. refl }

-- no decimal is empty
pub not_empty : (bs : List ℕ) (number : ℕ) → number < 2 ^ 64 → length bs ≡ 0 → decimal number ≢ bs
not_empty bs number small none e = let p = decimal_nonempty number small in absurd (omega (arith, p, none, ap length e))

-- none of several digits begins with a zero
pub no_needless_zero : (bs : List ℕ) (number : ℕ) → number < 2 ^ 64 → get_or bs 0 0 ≡ 48 → 1 < length bs → decimal number ≢ bs
no_needless_zero bs zero small first several e =
    absurd (omega (arith, several, ap length (sym (decimal_digit 0 (omega arith)) ∙ e)))
no_needless_zero bs (suc n) small first several e =
    let p = first_decimal (suc n) (omega arith) small in
    absurd (omega (arith, p, first, ap (λ (ds : List ℕ). get_or ds 0 0) e))

pub decimal_from_value : (ds : List ℕ) (number : ℕ) → AllDigits 10 ds → 0 < length ds → (get_or ds 0 0 ≡ 48 → length ds ≡ 1) → number < 2 ^ 64 → number ≡ digits_value 10 ds → decimal number ≡ ds
decimal_from_value ds number all some first small e = rw e (decimal-digits_value own ds all some first (rw e at small))

pub value_from_decimal : (ds : List ℕ) (number : ℕ) → number < 2 ^ 64 → decimal number ≡ ds → digits_value 10 ds ≡ number
value_from_decimal ds number small e = rw (← e) (digits_value-decimal own number small)

pub AllDigits-at : (base : ℕ) (ds : List ℕ) (i : ℕ) → AllDigits base ds → i < length ds → digit_value (get_or ds i 0) < base
AllDigits-at base [] i all lt = absurd (omega (arith, lt))
AllDigits-at base (d ∷ ds) zero all lt = all.0
AllDigits-at base (d ∷ ds) (suc i) all lt = AllDigits-at base ds i all.1 (omega (arith, lt))

digit_from_test : (b : ℕ) → is_ascii_digit b ≡ true → digit_value b < 10
digit_from_test b e =
    let within = bounds 48 57 b e in
    let p = digit_value_digit b within in
    omega (arith, p, within.1)

-- the run of digits at the front has digits alone
pub AllDigits-take_while : (bs : List ℕ) → AllDigits 10 (take_while is_ascii_digit bs)
AllDigits-take_while [] = tt
AllDigits-take_while (b ∷ bs) = rw (take_while-cons is_ascii_digit b bs) (by_test (take_while is_ascii_digit bs) (AllDigits-take_while bs) (is_ascii_digit b) refl)
  where
    by_test : (rest : List ℕ) → AllDigits 10 rest → (t : Bool) → is_ascii_digit b ≡ t → AllDigits 10 (cond t (b ∷ rest) [])
    by_test rest all true e = (digit_from_test b e, all)
    by_test rest all false e = tt

-- what was read of digits is what they spell
pub spells : (ds : List ℕ) (read : Option ℕ) → AllDigits 10 ds → 0 < length ds → (get_or ds 0 0 ≡ 48 → length ds ≡ 1) → IfSome read (λ number. (number ≡ digits_value 10 ds) × (number < 2 ^ 64)) → IfSome read (λ number. (decimal number ≡ ds) × (number < 2 ^ 64))
spells ds None all some first e = tt
spells ds (Some number) all some first e = (decimal_from_value ds number all some first e.1 e.0, e.1)

pub spells_none : (ds : List ℕ) (read : Option ℕ) → IfNone read (2 ^ 64 ≤ digits_value 10 ds) → IfNone read ((number : ℕ) → number < 2 ^ 64 → decimal number ≢ ds)
spells_none ds None large = λ number small e. let p = value_from_decimal ds number small e in absurd (omega (arith, p, large, small))
spells_none ds (Some number) large = tt

pub positive : (ds : List ℕ) → eqb (length ds) 0 ≡ false → 0 < length ds
positive [] e = absurd (cc)
positive (d ∷ ds) e = omega arith

-- the number that was read of a run is the one that stands there
pub same_decimal : (text : List ℕ) (at read number : ℕ) (run : List ℕ) → run ≡ take_while is_ascii_digit (drop at text) → decimal read ≡ run → read < 2 ^ 64 → IsDecimalAt text at number → (read ≡ number) × (at + length run ≡ at + length (decimal number))
same_decimal text at read number run is e small h =
    (decimal_injective read number small h.small (e ∙ is ∙ sym h.spelled), ap (λ (ds : List ℕ). at + length ds) (is ∙ sym h.spelled))
