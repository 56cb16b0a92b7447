-- Powers of two, and products by them.
use Rattle.std.proofs.Common.{◌≡◌, ℕ, ◌*◌, ◌^◌, ◌%◌, ◌<◌, ◌≤◌, ℤ, pos, negsuc, ◌*ℤ◌, w64, FitsSigned, to_z, of_z, sym, subst, ap, ◌∙◌, arith}
use Rattle.std.specs.Int.{w128}
use Rattle.std.specs.Prelude.{unsigned_abs}
use Rattle.std.proofs.Math.Facts.{to_z-of_z}
use Rattle.std.proofs.Math.Pow.{pow_mono, pow-lt}
use Rattle.std.proofs.Math.Nat.{one-mul, mod-eq_of_lt}
use Rattle.std.proofs.lemmas.Int.{fits_signed_mul}

pub small_power : (k : ℕ) → k < 64 → 2 ^ k ≤ 2 ^ 63
small_power k h = pow_mono {i = k} {j = 63} (omega (arith, h))

pub is_power : (k : ℕ) → k < 64 → 1 * 2 ^ k % 2 ^ 64 ≡ 2 ^ k
is_power k h = ap (λ n. n % 2 ^ 64) (one-mul (2 ^ k)) ∙ mod-eq_of_lt (pow-lt {i = k} {j = 64} h)

abs_small : (a : ℤ) → FitsSigned w64 a → unsigned_abs a ≤ 2 ^ 63
abs_small (pos n) h = omega (arith, h)
abs_small (negsuc n) h = omega (arith, h)

pub product_fits : (a : ℤ) (n : ℕ) → FitsSigned w64 a → n ≤ 2 ^ 63 → FitsSigned w128 (a *ℤ pos n)
product_fits a n h k = fits_signed_mul w128 a (pos n) (2 ^ 63) (2 ^ 63) (abs_small a h) k (omega arith)

wide : (a : ℤ) → FitsSigned w64 a → FitsSigned w128 a
wide (pos n) h = omega (arith, h)
wide (negsuc n) h = omega (arith, h)

wide_number : (n : ℕ) → n ≤ 2 ^ 63 → FitsSigned w128 (pos n)
wide_number n h = omega (arith, h)

read_back : (a x : ℤ) → FitsSigned w64 a → x ≡ to_z w64 (of_z w64 a) → to_z w128 (of_z w128 x) ≡ a
read_back a x h e =
    let is_a : x ≡ a = e ∙ to_z-of_z {w = w64} {z = a} h in
    ap (λ z. to_z w128 (of_z w128 z)) is_a ∙ to_z-of_z {w = w128} {z = a} (wide a h)

number_back : (n : ℕ) (y : ℤ) → n ≤ 2 ^ 63 → y ≡ pos n → to_z w128 (of_z w128 y) ≡ pos n
number_back n y h e = ap (λ z. to_z w128 (of_z w128 z)) e ∙ to_z-of_z {w = w128} {z = pos n} (wide_number n h)

-- as a product is computed: its factors are written wide and read back, and so is the product
pub factors : (a x y : ℤ) (n : ℕ) → FitsSigned w64 a → n ≤ 2 ^ 63 → x ≡ to_z w64 (of_z w64 a) → y ≡ pos n
    → to_z w128 (of_z w128 x) *ℤ to_z w128 (of_z w128 y) ≡ a *ℤ pos n
factors a x y n h k e f = ap (λ z. z *ℤ to_z w128 (of_z w128 y)) (read_back a x h e) ∙ ap (λ z. a *ℤ z) (number_back n y k f)

pub wide_fits : (a x y : ℤ) (n : ℕ) → FitsSigned w64 a → n ≤ 2 ^ 63 → x ≡ to_z w64 (of_z w64 a) → y ≡ pos n
    → FitsSigned w128 (to_z w128 (of_z w128 x) *ℤ to_z w128 (of_z w128 y))
wide_fits a x y n h k e f = subst (FitsSigned w128) (sym (factors a x y n h k e f)) (product_fits a n h k)

pub product_is : (a x y : ℤ) (n : ℕ) → FitsSigned w64 a → n ≤ 2 ^ 63 → x ≡ to_z w64 (of_z w64 a) → y ≡ pos n
    → to_z w128 (of_z w128 (to_z w128 (of_z w128 x) *ℤ to_z w128 (of_z w128 y))) ≡ a *ℤ pos n
product_is a x y n h k e f = to_z-of_z {w = w128} (wide_fits a x y n h k e f) ∙ factors a x y n h k e f
