-- Limbs of 64 bits and the number that they stand for.
use Rattle.std.proofs.Common.{◌≡◌, ◌≢◌, ℕ, zero, suc, ◌+◌, ◌-◌, ◌*◌, ◌/◌, ◌^◌, ◌<◌, ◌≤◌, true, eqb, List, [], ◌∷◌, length, get_or, refl, sym, ap, ◌∙◌, arith, inl, inr, Less, Greater, nat_cmp}
use Rattle.std.proofs.lemmas.Bool.{cases_lt, eq-eqb, eqb-true}
use Rattle.std.specs.Cmp.{both_ways, nat_cmp_is}
use Rattle.std.specs.Cmp.Lexicographic.{same_text}
use lib.Pointwise.{pointwise}
use Rattle.std.proofs.Math.ListN.{set}
use Rattle.std.proofs.lemmas.List.{length-set, ext_get_or}
use Rattle.std.proofs.lemmas.Nat.{pow_pos, pow-add, leading_length}
use Rattle.std.specs.Int.Count.{count_leading_zeros}
use Rattle.cw_core.specs.Limbs.{number_of, limbs_of, AreLimbs, AreSixteenLimbs, limbs_of-number_of}

pub AreLimbs-set : (ws : List ℕ) (i w : ℕ) → AreLimbs ws → w < 2 ^ 64 → AreLimbs (set ws i w)
AreLimbs-set [] i w fit lt = tt
AreLimbs-set (x ∷ ws) zero w fit lt = (lt, fit.1)
AreLimbs-set (x ∷ ws) (suc i) w fit lt = (fit.0, AreLimbs-set ws i w fit.1 lt)

pub AreSixteenLimbs-set : (ws : List ℕ) (i w : ℕ) → AreSixteenLimbs ws → w < 2 ^ 64 → AreSixteenLimbs (set ws i w)
AreSixteenLimbs-set ws i w fit lt = (AreLimbs-set ws i w fit.0 lt, length-set ws i w ∙ fit.1)

pub AreLimbs-at : (ws : List ℕ) (i : ℕ) → AreLimbs ws → get_or ws i 0 < 2 ^ 64
AreLimbs-at [] i fit = omega arith
AreLimbs-at (x ∷ ws) zero fit = fit.0
AreLimbs-at (x ∷ ws) (suc i) fit = AreLimbs-at ws i fit.1

-- equal numbers have equal limbs
pub same_limbs : (xs ys : List ℕ) → AreLimbs xs → AreLimbs ys → length xs ≡ length ys → number_of xs ≡ number_of ys → xs ≡ ys
same_limbs xs ys p q len e =
    sym (limbs_of-number_of (length xs) xs p refl) ∙ ap (limbs_of (length xs)) e ∙ limbs_of-number_of (length xs) ys q (sym len)

-- the highest limbs that differ tell which number is less
pub number_of-lt : (xs ys : List ℕ) (i : ℕ) → AreLimbs xs → AreLimbs ys → length xs ≡ length ys → ((k : ℕ) → i < k → get_or xs k 0 ≡ get_or ys k 0) → get_or xs i 0 < get_or ys i 0 → number_of xs < number_of ys
unfolding number_of
number_of-lt [] [] i p q len above lt = absurd (omega (arith, lt))
number_of-lt [] (y ∷ ys) i p q len above lt = absurd (omega (arith, len))
number_of-lt (x ∷ xs) [] i p q len above lt = absurd (omega (arith, len))
number_of-lt (x ∷ xs) (y ∷ ys) zero p q len above lt =
    let rest : xs ≡ ys = ext_get_or 0 xs ys (omega (arith, len)) (λ k _. above (suc k) (omega arith)) in
    let same : number_of xs ≡ number_of ys = ap number_of rest in
    omega (arith, same, lt)
number_of-lt (x ∷ xs) (y ∷ ys) (suc i) p q len above lt =
    let less = number_of-lt xs ys i p.1 q.1 (omega (arith, len)) (λ k h. above (suc k) (omega (arith, h))) lt in
    let low = p.0 in
    omega (arith, less, low)

-- the test of all limbs is the test of the numbers
pub pointwise-number_of : (xs ys : List ℕ) → AreLimbs xs → AreLimbs ys → length xs ≡ length ys → pointwise eqb xs ys ≡ eqb (number_of xs) (number_of ys)
pointwise-number_of xs ys p q len =
    both_ways (pointwise eqb xs ys) (eqb (number_of xs) (number_of ys))
    (λ h. eq-eqb (number_of xs) (number_of ys) (ap number_of (same_text xs ys (sym h))))
    (λ h. rw (same_limbs xs ys p q len (eqb-true (number_of xs) (number_of ys) h)) (pointwise_refl ys))
  where
    pointwise_refl : (zs : List ℕ) → pointwise eqb zs zs ≡ true
    pointwise_refl [] = refl
    pointwise_refl (z ∷ zs) = rw (eq-eqb z z refl) (pointwise_refl zs)

-- two limbs that differ tell the order of the numbers, where the limbs above are equal
pub nat_cmp-number_of : (xs ys : List ℕ) (i : ℕ) → AreLimbs xs → AreLimbs ys → length xs ≡ length ys → ((k : ℕ) → i < k → get_or xs k 0 ≡ get_or ys k 0) → get_or xs i 0 ≢ get_or ys i 0 → nat_cmp (get_or xs i 0) (get_or ys i 0) ≡ nat_cmp (number_of xs) (number_of ys)
nat_cmp-number_of xs ys i p q len above differ =
    elim (cases_lt (get_or xs i 0) (get_or ys i 0)) [
      | inl lt ↦ sym (nat_cmp_is _ _ Less lt) ∙ nat_cmp_is _ _ Less (number_of-lt xs ys i p q len above lt)
      | inr le ↦
          let gt : get_or ys i 0 < get_or xs i 0 = omega (arith, le, differ) in
          sym (nat_cmp_is _ _ Greater gt) ∙ nat_cmp_is _ _ Greater (number_of-lt ys xs i q p (sym len) (λ k h. sym (above k h)) gt)
    ]

-- limbs that are all equal
pub same_number : (xs ys : List ℕ) → length xs ≡ length ys → ((k : ℕ) → 0 ≤ k → get_or xs k 0 ≡ get_or ys k 0) → number_of xs ≡ number_of ys
same_number xs ys len all = ap number_of (ext_get_or 0 xs ys len (λ k _. all k (omega arith)))

-- where every limb is zero
pub all_zero : (ws : List ℕ) → ((k : ℕ) → 0 ≤ k → get_or ws k 0 ≡ 0) → number_of ws ≡ 0
unfolding number_of
all_zero [] none = refl
all_zero (w ∷ ws) none =
    let first : w ≡ 0 = none zero (omega arith) in
    let rest = all_zero ws (λ k _. none (suc k) (omega arith)) in
    omega (arith, first, rest)

-- the highest limb that isn't zero bounds the number
top_limb : (ws : List ℕ) (i m : ℕ) → AreLimbs ws → ((k : ℕ) → i < k → get_or ws k 0 ≡ 0) → get_or ws i 0 < 2 ^ m → number_of ws < 2 ^ (64 * i + m)
unfolding number_of
top_limb [] i m fit above lt = pow_pos (64 * i + m)
top_limb (w ∷ ws) zero m fit above lt =
    let rest = all_zero ws (λ k _. above (suc k) (omega arith)) in
    let e : 64 * 0 + m ≡ m = omega arith in
    rw e (omega (arith, rest, lt))
top_limb (w ∷ ws) (suc i) m fit above lt =
    let less = top_limb ws i m fit.1 (λ k h. above (suc k) (omega (arith, h))) lt in
    let e : 64 * suc i + m ≡ 64 * i + m + 64 = omega arith in
    let p : 2 ^ (64 * suc i + m) ≡ 2 ^ (64 * i + m) * 2 ^ 64 = ap (λ (z : ℕ). 2 ^ z) e ∙ pow-add 2 (64 * i + m) 64 in
    let low = fit.0 in
    rw p (omega (arith, less, low))

-- it has as many bits as it has itself, behind those of the limbs below
pub below_top : (ws : List ℕ) (i empty bits : ℕ) → AreLimbs ws → ((k : ℕ) → i < k → get_or ws k 0 ≡ 0) → empty ≡ count_leading_zeros 64 (get_or ws i 0)
    → bits ≡ 64 * i + 64 - empty → number_of ws < 2 ^ bits
below_top ws i empty bits fit above is e =
    let (m, whole, lt, _) = leading_length 64 (get_or ws i 0) (AreLimbs-at ws i fit) in
    let same : 64 * i + m ≡ bits = omega (arith, is, e, whole) in
    rw (← same) (top_limb ws i m fit above lt)
