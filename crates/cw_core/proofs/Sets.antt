-- Laws of sets of numbers, for whoever uses them.
use Rattle.std.proofs.Common.{◌≡◌, ℕ, zero, suc, ◌+◌, ◌*◌, ◌/◌, ◌%◌, ◌^◌, ◌<◌, false, cond, eqb, refl, sym, ap, ◌∙◌, arith, inl, inr}
use Rattle.std.specs.Int.{bit_at}
use Rattle.std.proofs.lemmas.Bool.{cases_lt, eqb-true, false≢true}
use Rattle.std.proofs.lemmas.Nat.Bits.{bit_at-zero, bit_at-suc, bit_at-lt, bit_at_above, same_from_bits}
use Rattle.std.proofs.Math.Nat.{mod-eq_of_lt, add_comm}
use Rattle.std.proofs.lemmas.Nat.{mod-pow-add}
use Rattle.std.specs.Cmp.{both_ways}
use Rattle.cw_core.specs.StateSet.{has, IsBelow, sum_of_powers}

-- the empty set has no member
pub has-zero : (s : ℕ) → has 0 s ≡ false
unfolding has
has-zero s = rw (bit_at-zero s) refl

bit_from_has : (a b s : ℕ) → has a s ≡ has b s → bit_at a s ≡ bit_at b s
unfolding has
bit_from_has a b s e = same_bit (bit_at a s) (bit_at b s) (bit_at-lt a s) (bit_at-lt b s) e
  where
    same_bit : (x y : ℕ) → x < 2 → y < 2 → eqb x 1 ≡ eqb y 1 → x ≡ y
    same_bit zero zero p q e = refl
    same_bit zero (suc zero) p q e = absurd (cc)
    same_bit (suc zero) zero p q e = absurd (cc)
    same_bit (suc zero) (suc zero) p q e = refl
    same_bit (suc (suc x)) y p q e = absurd (omega arith)
    same_bit zero (suc (suc y)) p q e = absurd (omega arith)
    same_bit (suc zero) (suc (suc y)) p q e = absurd (omega arith)

-- two sets with the same members are the same number
pub same_from_members : (a b : ℕ) → ((s : ℕ) → has a s ≡ has b s) → a ≡ b
same_from_members a b h = same_from_bits a b (λ s. bit_from_has a b s (h s))

-- the members from 1 on are those of the half, moved up by one
pub has-suc : (set s : ℕ) → has set (suc s) ≡ has (set / 2) s
unfolding has
has-suc set s = ap (λ (b : ℕ). eqb b 1) (bit_at-suc set s)

-- a set of numbers below n is a number below 2 ^ n
pub IsBelow-lt : (n set : ℕ) → IsBelow n set → set < 2 ^ n
IsBelow-lt zero set h =
    let none : set ≡ 0 = same_from_members set 0 (λ s. both_ways (has set s) (has 0 s) (λ e. absurd (omega (arith, h s e))) (λ e. absurd (false≢true (sym (has-zero s) ∙ e)))) in
    omega (arith, none)
IsBelow-lt (suc n) set h =
    let half = IsBelow-lt n (set / 2) (λ s e. let p = h (suc s) (has-suc set s ∙ e) in omega (arith, p)) in
    omega (arith, half)

-- and a number below 2 ^ n is a set of numbers below n
pub IsBelow_from_lt : (n set : ℕ) → set < 2 ^ n → IsBelow n set
unfolding has
IsBelow_from_lt n set lt s h =
    elim (cases_lt s n) [
      | inl below ↦ below
      | inr le ↦
          let none : bit_at set s ≡ 0 = bit_at_above set n s lt le in
          absurd (omega (arith, none, eqb-true (bit_at set s) 1 h))
    ]

power_of_member : (set n : ℕ) → cond (has set n) (2 ^ n) 0 ≡ set / 2 ^ n % 2 ^ 1 * 2 ^ n
unfolding has
power_of_member set n = by_bit (bit_at set n) (bit_at-lt set n)
  where
    by_bit : (bit : ℕ) → bit < 2 → cond (eqb bit 1) (2 ^ n) 0 ≡ bit * 2 ^ n
    by_bit zero lt = omega arith
    by_bit (suc zero) lt = omega arith
    by_bit (suc (suc bit)) lt = absurd (omega (arith, lt))

-- a number is the sum of the powers of its members
sum_of_powers-mod : (n set : ℕ) → sum_of_powers n set ≡ set % 2 ^ n
unfolding sum_of_powers
sum_of_powers-mod zero set = omega arith
sum_of_powers-mod (suc n) set =
    let e : 1 + n ≡ suc n = omega arith in
    ap (λ (z : ℕ). z + cond (has set n) (2 ^ n) 0) (sum_of_powers-mod n set)
    ∙ ap (λ (z : ℕ). set % 2 ^ n + z) (power_of_member set n)
    ∙ add_comm (set % 2 ^ n) (set / 2 ^ n % 2 ^ 1 * 2 ^ n)
    ∙ sym (mod-pow-add set 1 n)
    ∙ ap (λ (k : ℕ). set % 2 ^ k) e

pub sum_of_powers-same : (n set : ℕ) → IsBelow n set → sum_of_powers n set ≡ set
sum_of_powers-same n set below = sum_of_powers-mod n set ∙ mod-eq_of_lt (IsBelow-lt n set below)
