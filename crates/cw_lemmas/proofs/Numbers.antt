-- Numbers and their tests, besides what std has of them.
use Rattle.std.proofs.Common.{◌≡◌, ℕ, zero, suc, ◌*◌, ◌<◌, ◌≤◌, Bool, true, false, cond, Some, None, unwrap_or, inl, inr, arith}
use Rattle.std.specs.Prelude.{nat_eq, nat_lt}
use Rattle.std.proofs.Math.Nat.{mul-zero}
use Rattle.std.proofs.lemmas.Bool.{lt-ltb, ltb-true}
use Rattle.std.proofs.lemmas.Bool.Decides.{nat_tests, leb_tells}
use Rattle.std.specs.Cmp.{both_ways}

pub nat_eq_self : (n : ℕ) → nat_eq n n ≡ true
nat_eq_self n = grind (arith, nat_tests)

pub nat_lt_suc : (m n : ℕ) → nat_lt (suc m) (suc n) ≡ nat_lt m n
nat_lt_suc m n = both_ways (nat_lt (suc m) (suc n)) (nat_lt m n) (λ h. let l : suc m < suc n = ltb-true (suc m) (suc n) h in lt-ltb m n (omega (arith, l)))
    (λ h. let l : m < n = ltb-true m n h in lt-ltb (suc m) (suc n) (omega (arith, l)))

pub le_from_not_lt : (m n : ℕ) → (n < m → ⊥) → m ≤ n
le_from_not_lt m n f = elim (leb_tells m n) [ inl h ↦ h.1 | inr h ↦ absurd (f h.1) ]

pub lt_not_le : (m n : ℕ) → m < n → n ≤ m → ⊥
lt_not_le m n lt le = omega (arith, lt, le)

-- below a product, so the second factor isn't 0
pub mul_positive : (m n k : ℕ) → k < m * n → 0 < n
mul_positive m zero k l = let z : m * 0 ≡ 0 = mul-zero m in absurd (omega (arith, l, z))
mul_positive m (suc n) k l = omega arith

-- a number where it is below the bound, and else 0
pub below_or_zero : (b : Bool) (n m : ℕ) → nat_lt n m ≡ b → 0 < m → unwrap_or (cond b (Some n) None) 0 < m
below_or_zero true n m e l = let k : n < m = grind (arith, nat_tests) in k
below_or_zero false n m e l = l
