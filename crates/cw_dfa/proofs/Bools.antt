-- The members of sets that are numbers.
use Rattle.std.proofs.Common.{◌≡◌, ◌≢◌, ◌⊎◌, inl, inr, ℕ, ◌<◌, ◌^◌, Bool, true, false, max, nat_eq, refl, sym, ◌∙◌, arith, eqb-true, eq-eqb}
use Rattle.std.specs.Int.{bit_at}
use Rattle.std.specs.Int.RustNames.{bit_or}
use Rattle.std.proofs.lemmas.Nat.Bits.{bit_at_or, bit_at-lt, bit_at-pow_same, bit_at-pow_other, bit_at-zero}
use Rattle.std.proofs.lemmas.Bool.{false_from_ne_true}
use Rattle.cw_dfa.specs.Sets.{has}

one_of : (a b : ℕ) → a < 2 → b < 2 → max a b ≡ 1 → (a ≡ 1) ⊎ (b ≡ 1)
one_of a b l m e = by (nat_eq a 1) refl
  where
    by : (t : Bool) → nat_eq a 1 ≡ t → (a ≡ 1) ⊎ (b ≡ 1)
    by true t = inl (eqb-true a 1 t)
    by false t = let n : a ≢ 1 = λ q. let z = eq-eqb a 1 q in cc in inr (omega arith)

pub has_or_cases : (a b i : ℕ) → has (bit_or a b) i ≡ true → (has a i ≡ true) ⊎ (has b i ≡ true)
has_or_cases a b i e = by (one_of (bit_at a i) (bit_at b i) (bit_at-lt a i) (bit_at-lt b i) (sym (bit_at_or a b i) ∙ eqb-true _ 1 e))
  where
    by : (bit_at a i ≡ 1) ⊎ (bit_at b i ≡ 1) → (has a i ≡ true) ⊎ (has b i ≡ true)
    by (inl x) = inl (eq-eqb _ 1 x)
    by (inr x) = inr (eq-eqb _ 1 x)

pub has_or_left : (a b i : ℕ) → has a i ≡ true → has (bit_or a b) i ≡ true
has_or_left a b i e =
    let x : bit_at a i ≡ 1 = eqb-true _ 1 e in
    let y = bit_at-lt b i in
    let z = bit_at_or a b i in
    eq-eqb _ 1 (omega arith)

pub has_or_right : (a b i : ℕ) → has b i ≡ true → has (bit_or a b) i ≡ true
has_or_right a b i e =
    let x : bit_at b i ≡ 1 = eqb-true _ 1 e in
    let y = bit_at-lt a i in
    let z = bit_at_or a b i in
    eq-eqb _ 1 (omega arith)

pub has_none : (i : ℕ) → has 0 i ≡ true → ⊥
has_none i e = let x : bit_at 0 i ≡ 1 = eqb-true _ 1 e in let z = bit_at-zero i in absurd (omega arith)

pub has-zero : (i : ℕ) → has 0 i ≡ false
has-zero i = false_from_ne_true (has 0 i) (has_none i)

pub has_pow : (k : ℕ) → has (2 ^ k) k ≡ true
has_pow k = eq-eqb _ 1 (bit_at-pow_same k)

pub has_pow_only : (k i : ℕ) → has (2 ^ k) i ≡ true → i ≡ k
has_pow_only k i e = by (nat_eq i k) refl
  where
    by : (t : Bool) → nat_eq i k ≡ t → i ≡ k
    by true t = eqb-true i k t
    by false t =
        let n : i ≢ k = λ q. let z = eq-eqb i k q in cc in
        let x : bit_at (2 ^ k) i ≡ 1 = eqb-true _ 1 e in
        let z = bit_at-pow_other k i n in
        absurd (omega arith)
