-- Four bits at a time.
use Rattle.std.proofs.Common.{◌≡◌, ℕ, zero, suc, ◌+◌, ◌*◌, ◌-◌, ◌/◌, ◌%◌, ◌^◌, ◌<◌, ◌≤◌, List, [], ◌∷◌, ◌++◌, length, get_or, refl, sym, ap, ◌∙◌, arith, inl, inr, bit_or}
use Rattle.std.proofs.Math.ListN.{set}
use Rattle.std.proofs.Math.Nat.{mul_assoc, add_comm, mul-le-mul_right}
use Rattle.std.specs.Int.Bits.{or_shifted_r}
use Rattle.std.specs.Int.Digits.{digits_of}
use Rattle.std.proofs.lemmas.Int.Digits.{digits_of_step}
use Rattle.std.proofs.lemmas.Bool.{cases_lt}
use Rattle.std.proofs.lemmas.Nat.{shr-shr, shr_le, field_of, or_lt, pow-add}
use Rattle.std.proofs.Math.Pow.{mod-mod-pow}
use Rattle.std.proofs.lemmas.Nat as nat
use Rattle.cw_core.specs.Limbs.{number_of, AreLimbs}
use Rattle.cw_core.proofs.Limbs.{AreLimbs-at}

zero_shr : (k : ℕ) → 0 / 2 ^ k ≡ 0
zero_shr k = let p = shr_le 0 k in omega (arith, p)

low : (hi w k : ℕ) → w < 2 ^ 64 → k ≤ 64 → (hi * 2 ^ 64 + w) % 2 ^ k ≡ w % 2 ^ k
low hi w k fit le =
    let e : (64 - k) + k ≡ 64 = omega arith in
    let whole : (hi * 2 ^ 64 + w) % 2 ^ ((64 - k) + k) ≡ w = rw e (nat.mod_low hi 64 w fit) in
    sym (mod-mod-pow (hi * 2 ^ 64 + w) (64 - k) k) ∙ ap (λ (z : ℕ). z % 2 ^ k) whole

pub nibble_is : (ws : List ℕ) (i : ℕ) → AreLimbs ws → number_of ws / 2 ^ (4 * i) % 2 ^ 4 ≡ get_or ws (i / 16) 0 / 2 ^ (4 * (i % 16)) % 2 ^ 4
unfolding number_of
nibble_is [] i fit = rw (zero_shr (4 * i), zero_shr (4 * (i % 16))) refl
nibble_is (w ∷ ws) i fit =
    elim (cases_lt i 16) [
      | inl lt ↦
          let q : i / 16 ≡ 0 = omega arith in
          let r : i % 16 ≡ i = omega arith in
          rw (q, r) (sym (field_of (number_of ws * 2 ^ 64 + w) 4 (4 * i)) ∙ ap (λ (z : ℕ). z / 2 ^ (4 * i)) (low (number_of ws) w (4 + 4 * i) fit.0 (omega arith)) ∙ field_of w 4 (4 * i))
      | inr le ↦
          let q : i / 16 ≡ suc ((i - 16) / 16) = omega arith in
          let r : i % 16 ≡ (i - 16) % 16 = omega arith in
          let e : 64 + 4 * (i - 16) ≡ 4 * i = omega arith in
          let up : (number_of ws * 2 ^ 64 + w) / 2 ^ (4 * i) ≡ number_of ws / 2 ^ (4 * (i - 16)) = rw (← e) (sym (shr-shr (number_of ws * 2 ^ 64 + w) 64 (4 * (i - 16))) ∙ ap (λ (z : ℕ). z / 2 ^ (4 * (i - 16))) (nat.shr_high (number_of ws) 64 w fit.0)) in
          rw (q, r, up) (nibble_is ws (i - 16) fit.1)
    ]

pub byte_is : (ws : List ℕ) (i : ℕ) → AreLimbs ws → number_of ws / 2 ^ (8 * i) % 2 ^ 8 ≡ get_or ws (i / 8) 0 / 2 ^ (8 * (i % 8)) % 2 ^ 8
unfolding number_of
byte_is [] i fit = rw (zero_shr (8 * i), zero_shr (8 * (i % 8))) refl
byte_is (w ∷ ws) i fit =
    elim (cases_lt i 8) [
      | inl lt ↦
          let q : i / 8 ≡ 0 = omega arith in
          let r : i % 8 ≡ i = omega arith in
          rw (q, r) (sym (field_of (number_of ws * 2 ^ 64 + w) 8 (8 * i)) ∙ ap (λ (z : ℕ). z / 2 ^ (8 * i)) (low (number_of ws) w (8 + 8 * i) fit.0 (omega arith)) ∙ field_of w 8 (8 * i))
      | inr le ↦
          let q : i / 8 ≡ suc ((i - 8) / 8) = omega arith in
          let r : i % 8 ≡ (i - 8) % 8 = omega arith in
          let e : 64 + 8 * (i - 8) ≡ 8 * i = omega arith in
          let past = ap (λ (z : ℕ). z / 2 ^ (8 * (i - 8))) (nat.shr_high (number_of ws) 64 w fit.0) in
          let up : (number_of ws * 2 ^ 64 + w) / 2 ^ (8 * i) ≡ number_of ws / 2 ^ (8 * (i - 8)) = rw (← e) (sym (shr-shr (number_of ws * 2 ^ 64 + w) 64 (8 * (i - 8))) ∙ past) in
          rw (q, r, up) (byte_is ws (i - 8) fit.1)
    ]

pub limb_is : (ws : List ℕ) (i : ℕ) → AreLimbs ws → number_of ws / 2 ^ (64 * i) % 2 ^ 64 ≡ get_or ws i 0
unfolding number_of
limb_is [] i fit = rw (zero_shr (64 * i)) refl
limb_is (w ∷ ws) zero fit =
    let e : (number_of ws * 2 ^ 64 + w) / 2 ^ (64 * 0) ≡ number_of ws * 2 ^ 64 + w = omega arith in
    ap (λ (z : ℕ). z % 2 ^ 64) e ∙ nat.mod_low (number_of ws) 64 w fit.0
limb_is (w ∷ ws) (suc i) fit =
    let e : 64 * suc i ≡ 64 + 64 * i = omega arith in
    let whole = number_of ws * 2 ^ 64 + w in
    ap (λ (k : ℕ). whole / 2 ^ k % 2 ^ 64) e
    ∙ ap (λ (z : ℕ). z % 2 ^ 64) (sym (shr-shr whole 64 (64 * i)) ∙ ap (λ (z : ℕ). z / 2 ^ (64 * i)) (nat.shr_high (number_of ws) 64 w fit.0))
    ∙ limb_is ws i fit.1

-- one digit more
pub digits_more : (n i : ℕ) → 0 < n / 2 ^ (4 * i) → digits_of 16 (n / 2 ^ (4 * i)) ≡ digits_of 16 (n / 2 ^ (4 * (i + 1))) ++ (n / 2 ^ (4 * i) % 2 ^ 4 ∷ [])
digits_more n i pos =
    let e : 4 * i + 4 ≡ 4 * (i + 1) = omega arith in
    let f : n / 2 ^ (4 * i) / 16 ≡ n / 2 ^ (4 * (i + 1)) = shr-shr n (4 * i) 4 ∙ ap (λ (z : ℕ). n / 2 ^ z) e in
    digits_of_step 16 (n / 2 ^ (4 * i)) (omega arith) pos ∙ ap (λ (z : ℕ). digits_of 16 z ++ (n / 2 ^ (4 * i) % 2 ^ 4 ∷ [])) f

-- ---- four bits more, above all others

pub limb-le : (ws : List ℕ) (k : ℕ) → get_or ws k 0 * 2 ^ (64 * k) ≤ number_of ws
unfolding number_of
limb-le [] k = omega arith
limb-le (w ∷ ws) zero = omega arith
limb-le (w ∷ ws) (suc k) =
    let e : 64 * suc k ≡ 64 * k + 64 = omega arith in
    let p : 2 ^ (64 * suc k) ≡ 2 ^ (64 * k) * 2 ^ 64 = ap (λ (z : ℕ). 2 ^ z) e ∙ pow-add 2 (64 * k) 64 in
    let q : get_or ws k 0 * 2 ^ (64 * suc k) ≡ get_or ws k 0 * 2 ^ (64 * k) * 2 ^ 64 = ap (λ (z : ℕ). get_or ws k 0 * z) p ∙ sym (mul_assoc (get_or ws k 0) (2 ^ (64 * k)) (2 ^ 64)) in
    let less = limb-le ws k in
    rw q (omega (arith, less))

number_of-add : (ws : List ℕ) (k x : ℕ) → k < length ws → number_of (set ws k (get_or ws k 0 + x)) ≡ number_of ws + x * 2 ^ (64 * k)
unfolding number_of
number_of-add [] k x lt = absurd (omega (arith, lt))
number_of-add (w ∷ ws) zero x lt = omega arith
number_of-add (w ∷ ws) (suc k) x lt =
    let e : 64 * suc k ≡ 64 * k + 64 = omega arith in
    let p : 2 ^ (64 * suc k) ≡ 2 ^ (64 * k) * 2 ^ 64 = ap (λ (z : ℕ). 2 ^ z) e ∙ pow-add 2 (64 * k) 64 in
    let q : x * 2 ^ (64 * suc k) ≡ x * 2 ^ (64 * k) * 2 ^ 64 = ap (λ (z : ℕ). x * z) p ∙ sym (mul_assoc x (2 ^ (64 * k)) (2 ^ 64)) in
    let rest = number_of-add ws k x (omega (arith, lt)) in
    rw q (omega (arith, rest))

index_pow : (index : ℕ) → 2 ^ (4 * (index % 16)) * 2 ^ (64 * (index / 16)) ≡ 2 ^ (4 * index)
index_pow index =
    let e : 4 * (index % 16) + 64 * (index / 16) ≡ 4 * index = omega arith in
    sym (pow-add 2 (4 * (index % 16)) (64 * (index / 16))) ∙ ap (λ (z : ℕ). 2 ^ z) e

limb_below : (ws : List ℕ) (index : ℕ) → number_of ws < 2 ^ (4 * index) → get_or ws (index / 16) 0 < 2 ^ (4 * (index % 16))
limb_below ws index lt =
    elim (cases_lt (get_or ws (index / 16) 0) (2 ^ (4 * (index % 16)))) [
      | inl below ↦ below
      | inr le ↦
          let p = mul-le-mul_right (2 ^ (64 * (index / 16))) le in
          let q = limb-le ws (index / 16) in
          absurd (omega (arith, p, q, index_pow index, lt))
    ]

abbrev pub with_nibble : List ℕ → ℕ → ℕ → ℕ
with_nibble ws index digit = bit_or (get_or ws (index / 16) 0) (digit * 2 ^ (4 * (index % 16)) % 2 ^ 64)

pub with_nibble-lt : (ws : List ℕ) (index digit : ℕ) → AreLimbs ws → with_nibble ws index digit < 2 ^ 64
with_nibble-lt ws index digit fit = or_lt 64 (get_or ws (index / 16) 0) (digit * 2 ^ (4 * (index % 16)) % 2 ^ 64) (AreLimbs-at ws (index / 16) fit) (omega arith)

pub number_of-with_nibble : (ws : List ℕ) (index digit : ℕ) → index / 16 < length ws → digit < 16 → number_of ws < 2 ^ (4 * index) → number_of (set ws (index / 16) (with_nibble ws index digit)) ≡ number_of ws + digit * 2 ^ (4 * index)
number_of-with_nibble ws index digit within small above =
    let w = get_or ws (index / 16) 0 in
    let r = 4 * (index % 16) in
    let whole : digit * 2 ^ r % 2 ^ 64 ≡ digit * 2 ^ r = nat.shl_whole digit 4 r 64 small (omega arith) in
    let sum : with_nibble ws index digit ≡ w + digit * 2 ^ r = ap (bit_or w) whole ∙ or_shifted_r digit r w (limb_below ws index above) ∙ add_comm (digit * 2 ^ r) w in
    ap (λ (z : ℕ). number_of (set ws (index / 16) z)) sum
    ∙ number_of-add ws (index / 16) (digit * 2 ^ r) within
    ∙ ap (λ (z : ℕ). number_of ws + z) (mul_assoc digit (2 ^ r) (2 ^ (64 * (index / 16))) ∙ ap (λ (z : ℕ). digit * z) (index_pow index))
