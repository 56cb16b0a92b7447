-- Hexadecimals and the digits that they have.
use Rattle.std.proofs.Common.{◌≡◌, ◌≢◌, ℕ, zero, suc, ◌+◌, ◌*◌, ◌-◌, ◌^◌, ◌<◌, ◌≤◌, true, List, [], ◌∷◌, ◌++◌, length, get_or, drop, map, refl, sym, ap, ◌∙◌, arith, inl, inr, append_assoc, append-nil, drop-cons, length-drop}
use Rattle.std.specs.Char.{digit_value, digit_char}
use Rattle.std.specs.Int.Digits.{number_from_digits, number_from_digits_after, digits_of, AllBelowBase}
use Rattle.std.specs.List.{list_all}
use Rattle.std.specs.Str.Parse.{AllDigits, digits_value}
use Rattle.std.proofs.Math.Nat.{pow-suc, pow-zero, mul_assoc, mul_comm, add_comm, add-mul, div-eq_of_lt, mod-eq_of_lt}
use Rattle.std.proofs.lemmas.Bool.{cases_eq, ne_eqb}
use Rattle.std.proofs.lemmas.Int.Digits.{digits_value_is, digits_of_step, number_after_ge, number_digits_of, all_below_base_digits_of, first_digits_of, length-digits_of-le, digits_value-lt}
use Rattle.std.proofs.lemmas.List.{length-map}
use Rattle.std.proofs.lemmas.Nat.{div-mul-add, mod-mul-add, pow-add}
use Rattle.std.proofs.lemmas.Str.{digit_value-digit_char}
use Rattle.cw_core.specs.Numerals.{is_hexadecimal_digit, hexadecimal_digits}
use Rattle.cw_core.specs.StateSet.{IsBelow}
use Rattle.cw_core.proofs.Glyphs.{digit_value-lt, digit_char-digit_value, is_digit-digit_char, zero_from_char, char_from_zero}
use Rattle.std.proofs.lemmas.Bool.{and_parts as both_from_and}
use Rattle.cw_core.proofs.Sets.{IsBelow-lt}

-- ---- all digits

pub AllDigits-from_test : (ds : List ℕ) → list_all is_hexadecimal_digit ds ≡ true → AllDigits 16 ds
AllDigits-from_test [] e = tt
AllDigits-from_test (d ∷ ds) e = let p = both_from_and (is_hexadecimal_digit d) (list_all is_hexadecimal_digit ds) e in (digit_value-lt d p.0, AllDigits-from_test ds p.1)

chars-values : (ds : List ℕ) → list_all is_hexadecimal_digit ds ≡ true → map digit_char (map digit_value ds) ≡ ds
chars-values [] e = refl
chars-values (d ∷ ds) e = let p = both_from_and (is_hexadecimal_digit d) (list_all is_hexadecimal_digit ds) e in rw (digit_char-digit_value d p.0, chars-values ds p.1) refl

values-chars : (ds : List ℕ) → AllBelowBase 16 ds → map digit_value (map digit_char ds) ≡ ds
values-chars [] h = refl
values-chars (d ∷ ds) h = rw (digit_value-digit_char d (let p = h.0 in omega (arith, p)), values-chars ds h.1) refl

chars_are_digits : (ds : List ℕ) → AllBelowBase 16 ds → list_all is_hexadecimal_digit (map digit_char ds) ≡ true
chars_are_digits [] h = refl
chars_are_digits (d ∷ ds) h = rw (is_digit-digit_char d h.0, chars_are_digits ds h.1) refl

below_from_digits : (ds : List ℕ) → AllDigits 16 ds → AllBelowBase 16 (map digit_value ds)
below_from_digits [] h = tt
below_from_digits (d ∷ ds) h = (h.0, below_from_digits ds h.1)

-- the digits of a number that goes on with further digits
digits_of-after : (base n : ℕ) (ds : List ℕ) → 2 ≤ base → 0 < n → AllBelowBase base ds → digits_of base (number_from_digits_after base n ds) ≡ digits_of base n ++ ds
digits_of-after base n [] two pos all = sym (append-nil (digits_of base n))
digits_of-after base n (d ∷ ds) two pos all =
    let more : 0 < n * base + d = let p = number_after_ge base n (d ∷ []) (omega (arith, two)) in omega (arith, p, pos) in
    let step : digits_of base (n * base + d) ≡ digits_of base n ++ d ∷ [] =
    digits_of_step base (n * base + d) two more ∙ rw (div-mul-add n base d all.0, mod-mul-add n base d all.0) refl in
    digits_of-after base (n * base + d) ds two more all.1
    ∙ ap (λ (z : List ℕ). z ++ ds) step
    ∙ append_assoc (digits_of base n) (d ∷ []) ds

digits_of_one : (base d : ℕ) → 2 ≤ base → 0 < d → d < base → digits_of base d ≡ d ∷ []
digits_of_one base d two pos small = digits_of_step base d two pos ∙ rw (div-eq_of_lt small, mod-eq_of_lt small) refl

-- a number whose first digit is not 0 has these digits
digits_of-number : (base d : ℕ) (ds : List ℕ) → 2 ≤ base → 0 < d → AllBelowBase base (d ∷ ds) → (0 < number_from_digits base (d ∷ ds)) × (digits_of base (number_from_digits base (d ∷ ds)) ≡ d ∷ ds)
digits_of-number base d ds two pos all =
    let first : 0 * base + d ≡ d = omega arith in
    rw first (
      (let p = number_after_ge base d ds (omega (arith, two)) in omega (arith, p, pos)),
      digits_of-after base d ds two pos all.1 ∙ ap (λ (z : List ℕ). z ++ ds) (digits_of_one base d two pos all.0),
    )

pub hexadecimal_digits_positive : (n : ℕ) → 0 < n → hexadecimal_digits n ≡ map digit_char (digits_of 16 n)
unfolding hexadecimal_digits
hexadecimal_digits_positive n pos = rw (ne_eqb n 0 (λ e. omega (arith, pos, e))) refl

-- a number is spelled by its digits
pub hexadecimal_digits-digits_value : (ds : List ℕ) → list_all is_hexadecimal_digit ds ≡ true → 0 < length ds → (get_or ds 0 0 ≡ 48 → length ds ≡ 1) → hexadecimal_digits (digits_value 16 ds) ≡ ds
unfolding hexadecimal_digits
hexadecimal_digits-digits_value [] all some first = absurd (omega (arith, some))
hexadecimal_digits-digits_value (d ∷ ds) all some first =
    elim (cases_eq d 48) [
      | inl e ↦ rw e (lone ds (first e))
      | inr ne ↦
          let test = (both_from_and (is_hexadecimal_digit d) (list_all is_hexadecimal_digit ds) all).0 in
          let parts = digits_of-number 16 (digit_value d) (map digit_value ds) (omega arith) (char_from_zero d test ne) (below_from_digits (d ∷ ds) (AllDigits-from_test (d ∷ ds) all)) in
          let number : digits_value 16 (d ∷ ds) ≡ number_from_digits 16 (digit_value d ∷ map digit_value ds) = digits_value_is 16 (d ∷ ds) in
          rw number (hexadecimal_digits_positive (number_from_digits 16 (digit_value d ∷ map digit_value ds)) parts.0 ∙ ap (map digit_char) parts.1 ∙ chars-values (d ∷ ds) all)
    ]
  where
    lone : (rest : List ℕ) → length (d ∷ rest) ≡ 1 → hexadecimal_digits (digits_value 16 (48 ∷ rest)) ≡ 48 ∷ rest
    lone [] e = refl
    lone (x ∷ xs) e = absurd (omega (arith, e))

pub digits_value-hexadecimal_digits : (n : ℕ) → digits_value 16 (hexadecimal_digits n) ≡ n
unfolding hexadecimal_digits
digits_value-hexadecimal_digits zero = refl
digits_value-hexadecimal_digits (suc n) =
    ap (digits_value 16) (hexadecimal_digits_positive (suc n) (omega arith))
    ∙ digits_value_is 16 (map digit_char (digits_of 16 (suc n)))
    ∙ ap (number_from_digits 16) (values-chars (digits_of 16 (suc n)) (all_below_base_digits_of 16 (suc n) (omega arith)))
    ∙ number_digits_of 16 (suc n) (omega arith)

pub same_from_digits : (m n : ℕ) → hexadecimal_digits m ≡ hexadecimal_digits n → m ≡ n
same_from_digits m n e = sym (digits_value-hexadecimal_digits m) ∙ ap (digits_value 16) e ∙ digits_value-hexadecimal_digits n

-- the digits are digits
pub hexadecimal_digits_are_digits : (n : ℕ) → list_all is_hexadecimal_digit (hexadecimal_digits n) ≡ true
unfolding hexadecimal_digits
hexadecimal_digits_are_digits zero = refl
hexadecimal_digits_are_digits (suc n) =
    ap (list_all is_hexadecimal_digit) (hexadecimal_digits_positive (suc n) (omega arith))
    ∙ chars_are_digits (digits_of 16 (suc n)) (all_below_base_digits_of 16 (suc n) (omega arith))

-- ---- what spells no set

pub not_empty : (ds : List ℕ) (set : ℕ) → length ds ≡ 0 → hexadecimal_digits set ≢ ds
unfolding hexadecimal_digits
not_empty [] set none e =
    let zero_set : set ≡ 0 = sym (digits_value-hexadecimal_digits set) ∙ ap (digits_value 16) e in
    let lone : hexadecimal_digits 0 ≡ [] = rw zero_set at e in
    omega (arith, ap length lone)
not_empty (d ∷ ds) set none e = omega (arith, none)

first_char : (ds : List ℕ) → AllBelowBase 16 ds → 0 < get_or ds 0 0 → get_or (map digit_char ds) 0 0 ≢ 48
first_char [] all pos e = omega (arith, pos)
first_char (d ∷ ds) all pos e = let p = zero_from_char d all.0 e in omega (arith, pos, p)

pub no_needless_zero : (ds : List ℕ) (set : ℕ) → get_or ds 0 0 ≡ 48 → 1 < length ds → hexadecimal_digits set ≢ ds
unfolding hexadecimal_digits
no_needless_zero ds zero first several e = omega (arith, several, ap length e)
no_needless_zero ds (suc n) first several e =
    let spelled : map digit_char (digits_of 16 (suc n)) ≡ ds = sym (hexadecimal_digits_positive (suc n) (omega arith)) ∙ e in
    first_char (digits_of 16 (suc n)) (all_below_base_digits_of 16 (suc n) (omega arith)) (first_digits_of 16 (suc n) (omega arith) (omega arith)) (ap (λ (z : List ℕ). get_or z 0 0) spelled ∙ first)

pow-sixteen : (k : ℕ) → 16 ^ k ≡ 2 ^ (4 * k)
pow-sixteen zero = refl
pow-sixteen (suc k) =
    let e : 4 * suc k ≡ 4 * k + 4 = omega arith in
    pow-suc 16 k ∙ ap (λ (z : ℕ). z * 16) (pow-sixteen k) ∙ sym (ap (λ (z : ℕ). 2 ^ z) e ∙ pow-add 2 (4 * k) 4)

pub length-hexadecimal_digits : (k n : ℕ) → 0 < k → n < 2 ^ (4 * k) → length (hexadecimal_digits n) ≤ k
unfolding hexadecimal_digits
length-hexadecimal_digits k zero pos lt = omega (arith, pos)
length-hexadecimal_digits k (suc n) pos lt =
    let p = length-digits_of-le 16 k (suc n) (omega arith) (rw (pow-sixteen k) lt) in
    let e = ap length (hexadecimal_digits_positive (suc n) (omega arith)) ∙ length-map (digits_of 16 (suc n)) digit_char in
    omega (arith, p, e)

pub not_long : (ds : List ℕ) (set : ℕ) → IsBelow 1024 set → 256 < length ds → hexadecimal_digits set ≢ ds
not_long ds set below long e = let p = length-hexadecimal_digits 256 set (omega arith) (IsBelow-lt 1024 set below) in omega (arith, p, long, ap length e)

-- ---- the sum, from the last digit on

value_after : (base n : ℕ) (ds : List ℕ) → number_from_digits_after base n ds ≡ n * base ^ length ds + number_from_digits base ds
value_after base n [] = rw (pow-zero base) (omega arith)
value_after base n (d ∷ ds) =
    let first : 0 * base + d ≡ d = omega arith in
    let whole : n * base * base ^ length ds ≡ n * base ^ suc (length ds) = mul_assoc n base (base ^ length ds) ∙ ap (λ (z : ℕ). n * z) (mul_comm base (base ^ length ds) ∙ sym (pow-suc base (length ds))) in
    let left = value_after base (n * base + d) ds in
    let right = value_after base d ds in
    let apart = add-mul (n * base) d (base ^ length ds) in
    rw first (omega (arith, left, right, apart, whole))

pub digits_value-lt_pow : (ds : List ℕ) → list_all is_hexadecimal_digit ds ≡ true → digits_value 16 ds < 2 ^ (4 * length ds)
digits_value-lt_pow ds all = rw (← pow-sixteen (length ds)) (digits_value-lt 16 ds (AllDigits-from_test ds all))

-- the loop that sums: the digit before the ones that it has
pub one_digit_more : (ds : List ℕ) (i j : ℕ) → i < length ds → j ≡ i + 1 → digits_value 16 (drop i ds) ≡ digits_value 16 (drop j ds) + digit_value (get_or ds i 0) * 2 ^ (4 * (length ds - j))
one_digit_more ds i j lt e =
    let rest : length (drop j ds) ≡ length ds - j = length-drop j ds in
    let next : drop i ds ≡ get_or ds i 0 ∷ drop j ds = drop-cons ds i 0 lt ∙ ap (λ (k : ℕ). get_or ds i 0 ∷ drop k ds) (let q : suc i ≡ j = omega (arith, e) in q) in
    let first : 0 * 16 + digit_value (get_or ds i 0) ≡ digit_value (get_or ds i 0) = omega arith in
    ap (digits_value 16) next
    ∙ digits_value_is 16 (get_or ds i 0 ∷ drop j ds)
    ∙ ap (λ (z : ℕ). number_from_digits_after 16 z (map digit_value (drop j ds))) first
    ∙ value_after 16 (digit_value (get_or ds i 0)) (map digit_value (drop j ds))
    ∙ add_comm (digit_value (get_or ds i 0) * 16 ^ length (map digit_value (drop j ds))) (number_from_digits 16 (map digit_value (drop j ds)))
    ∙ rw (length-map (drop j ds) digit_value, rest, pow-sixteen (length ds - j), ← digits_value_is 16 (drop j ds)) refl

list_all-drop : (i : ℕ) (ds : List ℕ) → list_all is_hexadecimal_digit ds ≡ true → list_all is_hexadecimal_digit (drop i ds) ≡ true
list_all-drop zero ds all = all
list_all-drop (suc i) [] all = all
list_all-drop (suc i) (d ∷ ds) all = list_all-drop i ds (both_from_and (is_hexadecimal_digit d) (list_all is_hexadecimal_digit ds) all).1

pub sum_below : (ds : List ℕ) (index : ℕ) → list_all is_hexadecimal_digit ds ≡ true → index ≤ length ds → digits_value 16 (drop (length ds - index) ds) < 2 ^ (4 * index)
sum_below ds index all le =
    let e : length (drop (length ds - index) ds) ≡ index = length-drop (length ds - index) ds ∙ omega (arith, le) in
    rw e at (digits_value-lt_pow (drop (length ds - index) ds) (list_all-drop (length ds - index) ds all))

pub sum_step : (ds : List ℕ) (index set more digit : ℕ) → index < length ds → set ≡ digits_value 16 (drop (length ds - index) ds) → digit ≡ digit_value (get_or ds (length ds - 1 - index) 0) → more ≡ set + digit * 2 ^ (4 * index) → more ≡ digits_value 16 (drop (length ds - (index + 1)) ds)
sum_step ds index set more digit lt so_far is e =
    let at : length ds - 1 - index ≡ length ds - (index + 1) = omega arith in
    let few : length ds - (length ds - index) ≡ index = omega (arith, lt) in
    let step = one_digit_more ds (length ds - (index + 1)) (length ds - index) (omega (arith, lt)) (omega (arith, lt)) in
    e ∙ rw (so_far, is, at) (rw few at (sym step))
