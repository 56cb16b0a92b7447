-- The value of digits.
use Rattle.std.proofs.Common.{◌≡◌, ℕ, ◌+◌, ◌*◌, ◌^◌, ◌<◌, ◌≤◌, List, length, get_or, take, drop, map, refl, sym, ap, ◌∙◌, arith}
use Rattle.std.specs.Char.{digit_value}
use Rattle.std.specs.Int.Digits.{number_from_digits, number_from_digits_after}
use Rattle.std.specs.Str.Parse.{digits_value}
use Rattle.std.proofs.lemmas.Int.Digits.{number_after_append, number_after_ge, digits_value_is, digits_value_more}
use Rattle.std.proofs.lemmas.List.{take-append-drop, map-append}

-- the value of a front is at most that of the whole
pub digits_value-take-le : (base : ℕ) (ds : List ℕ) (i : ℕ) → 0 < base → digits_value base (take i ds) ≤ digits_value base ds
digits_value-take-le base ds i pos =
    let p = number_after_ge base (number_from_digits base (map digit_value (take i ds))) (map digit_value (drop i ds)) pos in
    let whole : digits_value base ds ≡ number_from_digits_after base (number_from_digits base (map digit_value (take i ds))) (map digit_value (drop i ds)) =
    digits_value_is base ds
    ∙ ap (λ (z : List ℕ). number_from_digits base (map digit_value z)) (sym (take-append-drop i ds))
    ∙ ap (number_from_digits base) (map-append digit_value (take i ds) (drop i ds))
    ∙ number_after_append base 0 (map digit_value (take i ds)) (map digit_value (drop i ds)) in
    rw (digits_value_is base (take i ds), whole) p

-- the value so far, digit by digit, and what it is where it is too large
pub value_step : (base : ℕ) (ds : List ℕ) (i number more : ℕ) → i < length ds → number ≡ digits_value base (take i ds) → more ≡ number * base + digit_value (get_or ds i 0)
    → more ≡ digits_value base (take (i + 1) ds)
value_step base ds i number more lt e h = h ∙ ap (λ (k : ℕ). k * base + digit_value (get_or ds i 0)) e ∙ sym (digits_value_more base ds i lt)

pub too_large : (base : ℕ) (ds : List ℕ) (i number : ℕ) → 0 < base → i < length ds → number ≡ digits_value base (take i ds) → 2 ^ 64 ≤ number * base + digit_value (get_or ds i 0)
    → 2 ^ 64 ≤ digits_value base ds
too_large base ds i number pos lt e large =
    let p = digits_value-take-le base ds (i + 1) pos in
    let q = value_step base ds i number (number * base + digit_value (get_or ds i 0)) lt e refl in
    omega (arith, p, q, large)
