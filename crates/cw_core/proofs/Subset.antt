-- A set within another, limb by limb.
use Rattle.std.proofs.Common.{◌≡◌, ℕ, zero, suc, ◌+◌, ◌*◌, ◌/◌, ◌%◌, ◌<◌, min, bit_and, List, length, get_or, refl, sym, ap, ◌∙◌, arith, inl, inr}
use Rattle.std.specs.Int.{bit_at}
use Rattle.std.proofs.lemmas.Bool.{cases_lt, eqb-true, eq-eqb}
use Rattle.std.proofs.lemmas.List.{get_or_past}
use Rattle.std.proofs.lemmas.Nat.Bits.{bit_at-zero, bit_at_and, bit_at-lt, bit_at_above, same_from_bits}
use Rattle.cw_core.specs.StateSet.{IsSubset}
use Rattle.cw_core.specs.Limbs.{number_of, AreLimbs}
use Rattle.cw_core.proofs.Bits.{has-number_of}
use Rattle.cw_core.proofs.Limbs.{AreLimbs-at}

abbrev Within : List ℕ → List ℕ → Type 0
Within a b = (k : ℕ) → k < 16 → bit_and (get_or a k 0) (get_or b k 0) ≡ get_or a k 0

one_from_min : (x y : ℕ) → min x y ≡ x → x ≡ 1 → y < 2 → y ≡ 1
one_from_min x y e f lt = omega arith

pub subset_from_limbs : (a b : List ℕ) → AreLimbs a → AreLimbs b → length a ≡ 16 → Within a b → IsSubset (number_of a) (number_of b)
subset_from_limbs a b p q len w i h =
    let here : bit_at (get_or a (i / 64) 0) (i % 64) ≡ 1 = eqb-true _ 1 (sym (has-number_of a i p) ∙ h) in
    elim (cases_lt (i / 64) 16) [
      | inl lt ↦
          let e : min (bit_at (get_or a (i / 64) 0) (i % 64)) (bit_at (get_or b (i / 64) 0) (i % 64)) ≡ bit_at (get_or a (i / 64) 0) (i % 64) = sym (bit_at_and (get_or a (i / 64) 0) (get_or b (i / 64) 0) (i % 64)) ∙ ap (λ (z : ℕ). bit_at z (i % 64)) (w (i / 64) lt) in
          let there : bit_at (get_or b (i / 64) 0) (i % 64) ≡ 1 = one_from_min _ _ e here (bit_at-lt (get_or b (i / 64) 0) (i % 64)) in
          has-number_of b i q ∙ eq-eqb _ 1 there
      | inr le ↦
          let none : bit_at (get_or a (i / 64) 0) (i % 64) ≡ 0 = rw (get_or_past a (i / 64) 0 (omega (arith, len))) (bit_at-zero (i % 64)) in
          absurd (omega (arith, none, here))
    ]

min_from_one : (x y : ℕ) → x < 2 → y < 2 → (x ≡ 1 → y ≡ 1) → min x y ≡ x
min_from_one zero y p q f = omega arith
min_from_one (suc zero) y p q f = let g = f refl in omega arith
min_from_one (suc (suc x)) y p q f = absurd (omega arith)

pub limbs_from_subset : (a b : List ℕ) → AreLimbs a → AreLimbs b → IsSubset (number_of a) (number_of b) → Within a b
limbs_from_subset a b p q s k lt =
    same_from_bits (bit_and (get_or a k 0) (get_or b k 0)) (get_or a k 0) (λ j.
    bit_at_and (get_or a k 0) (get_or b k 0) j
    ∙ min_from_one (bit_at (get_or a k 0) j) (bit_at (get_or b k 0) j) (bit_at-lt (get_or a k 0) j) (bit_at-lt (get_or b k 0) j) (λ one.
    elim (cases_lt j 64) [
      | inl small ↦
          let d : (64 * k + j) / 64 ≡ k = omega arith in
          let m : (64 * k + j) % 64 ≡ j = omega arith in
          let z = has-number_of b (64 * k + j) q in
          let y = s (64 * k + j) (has-number_of a (64 * k + j) p ∙ eq-eqb _ 1 (rw (d, m) one)) in
          eqb-true _ 1 (rw (d, m) at (sym z ∙ y))
      | inr large ↦
          let none : bit_at (get_or a k 0) j ≡ 0 = bit_at_above (get_or a k 0) 64 j (AreLimbs-at a k p) large in
          absurd (omega (arith, none, one))
    ]))
