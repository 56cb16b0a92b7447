-- Numbers of one digit.
use Rattle.std.proofs.Common.{◌≡◌, ℕ, zero, suc, ◌+◌, ◌-◌, ◌<◌, ◌≤◌, true, List, [], ◌∷◌, length, get_or, refl, sym, subst, arith}
use Rattle.cw_lex.specs.Numbers.{digits_of, suffix_of, number_of, is_number}

IsOneDigit : ℕ → Type 0
IsOneDigit value = (is_number ((48 + value) ∷ []) ≡ true) × (number_of ((48 + value) ∷ []) ≡ value)

below_ten : (value : ℕ) → value < 10 → IsOneDigit value
unfolding IsOneDigit is_number number_of digits_of suffix_of
below_ten zero lt = (refl, refl)
below_ten (suc zero) lt = (refl, refl)
below_ten (suc (suc zero)) lt = (refl, refl)
below_ten (suc (suc (suc zero))) lt = (refl, refl)
below_ten (suc (suc (suc (suc zero)))) lt = (refl, refl)
below_ten (suc (suc (suc (suc (suc zero))))) lt = (refl, refl)
below_ten (suc (suc (suc (suc (suc (suc zero)))))) lt = (refl, refl)
below_ten (suc (suc (suc (suc (suc (suc (suc zero))))))) lt = (refl, refl)
below_ten (suc (suc (suc (suc (suc (suc (suc (suc zero)))))))) lt = (refl, refl)
below_ten (suc (suc (suc (suc (suc (suc (suc (suc (suc zero))))))))) lt = (refl, refl)
below_ten (suc (suc (suc (suc (suc (suc (suc (suc (suc (suc value)))))))))) lt = absurd (omega (arith, lt))

digit_is : (byte : ℕ) → 48 ≤ byte → 48 + (byte - 48) ≡ byte
digit_is byte least = omega arith

is_one : (byte : ℕ) → 48 ≤ byte → byte ≤ 57 → true ≡ is_number (byte ∷ [])
unfolding IsOneDigit
is_one byte least most = sym (subst (λ (b : ℕ). is_number (b ∷ []) ≡ true) (digit_is byte least) (below_ten (byte - 48) (omega arith)).0)

value_of_one : (byte : ℕ) → 48 ≤ byte → byte ≤ 57 → byte - 48 ≡ number_of (byte ∷ [])
unfolding IsOneDigit
value_of_one byte least most = sym (subst (λ (b : ℕ). number_of (b ∷ []) ≡ byte - 48) (digit_is byte least) (below_ten (byte - 48) (omega arith)).1)

pub one_digit_is_number : (text : List ℕ) → length text ≡ 1 → 48 ≤ get_or text 0 0 → get_or text 0 0 ≤ 57 → true ≡ is_number text
one_digit_is_number [] one least most = absurd (omega (arith, one))
one_digit_is_number (byte ∷ []) one least most = is_one byte least most
one_digit_is_number (byte ∷ second ∷ rest) one least most = absurd (omega (arith, one))

pub one_digit_value : (text : List ℕ) → length text ≡ 1 → 48 ≤ get_or text 0 0 → get_or text 0 0 ≤ 57 → get_or text 0 0 - 48 ≡ number_of text
one_digit_value [] one least most = absurd (omega (arith, one))
one_digit_value (byte ∷ []) one least most = value_of_one byte least most
one_digit_value (byte ∷ second ∷ rest) one least most = absurd (omega (arith, one))
