-- The bits of the number that limbs stand for.
use Rattle.std.proofs.Common.{◌≡◌, ℕ, zero, suc, ◌+◌, ◌*◌, ◌-◌, ◌/◌, ◌%◌, ◌^◌, ◌<◌, ◌≤◌, ◌≢◌, ◌||◌, ◌&&◌, not, false, eqb, nat_lt, min, bit_or, bit_and, List, [], ◌∷◌, length, get_or, refl, sym, ap, ◌∙◌, arith, inl, inr}
use Rattle.std.proofs.Math.ListN.{set}
use Rattle.std.specs.Int.{bit_at, bit_not, w64}
use Rattle.std.proofs.lemmas.Bool.{cases_lt, cases_eq, ne_eqb, eq-eqb, eqb-true, lt-ltb, le-ltb}
use Rattle.std.proofs.lemmas.Nat.Bits.{bit_at-zero, bit_at_cat_low, bit_at_cat_high, bit_at_set_same, bit_at_set_other, bit_at_clear_same, bit_at_clear_other, bit_at_and, bit_at_not, bit_at_ones, bit_at_ones_above, bit_at-lt}
use Rattle.std.proofs.lemmas.Nat.{or_lt, and_le_l, and_le_r}
use Rattle.std.specs.Prelude.{IsTrue}
use Rattle.std.specs.Int.Bits.{and_lt}
use Rattle.std.proofs.lemmas.List.{get_or-set_same, get_or-set_other, get_or_past}
use Rattle.cw_core.specs.StateSet.{has}
use Rattle.cw_core.specs.Limbs.{number_of, AreLimbs, AreSixteenLimbs}
use Rattle.cw_core.proofs.Limbs.{AreLimbs-set, AreLimbs-at}

-- bit j of the number is bit j % 64 of limb j / 64
pub bit_at-number_of : (ws : List ℕ) (j : ℕ) → AreLimbs ws → bit_at (number_of ws) j ≡ bit_at (get_or ws (j / 64) 0) (j % 64)
unfolding number_of
bit_at-number_of [] j fit = bit_at-zero j ∙ sym (bit_at-zero (j % 64))
bit_at-number_of (w ∷ ws) j fit =
    elim (cases_lt j 64) [
      | inl lt ↦
          let q : j / 64 ≡ 0 = omega arith in
          let r : j % 64 ≡ j = omega arith in
          rw (q, r) (bit_at_cat_low (number_of ws) 64 w j lt)
      | inr le ↦
          let q : j / 64 ≡ suc ((j - 64) / 64) = omega arith in
          let r : j % 64 ≡ (j - 64) % 64 = omega arith in
          rw (q, r) (bit_at_cat_high (number_of ws) 64 w j fit.0 le ∙ bit_at-number_of ws (j - 64) fit.1)
    ]

pub has-number_of : (ws : List ℕ) (j : ℕ) → AreLimbs ws → has (number_of ws) j ≡ eqb (bit_at (get_or ws (j / 64) 0) (j % 64)) 1
unfolding has
has-number_of ws j fit = ap (λ (b : ℕ). eqb b 1) (bit_at-number_of ws j fit)

-- a limb of its own for the number s, which changes bit s alone
record ChangesBit (ws : List ℕ) (s v bit : ℕ) : Type 0 where
  fits : v < 2 ^ 64
  here : bit_at v (s % 64) ≡ bit
  others : (k : ℕ) → k < 64 → k ≢ (s % 64) → bit_at v k ≡ bit_at (get_or ws (s / 64) 0) k

bit_here : (ws : List ℕ) (s v bit : ℕ) → AreLimbs ws → s / 64 < length ws → ChangesBit ws s v bit → bit_at (number_of (set ws (s / 64) v)) s ≡ bit
bit_here ws s v bit fit within h =
    bit_at-number_of (set ws (s / 64) v) s (AreLimbs-set ws (s / 64) v fit h.fits) ∙ rw (get_or-set_same ws (s / 64) v 0 within) h.here

bit_elsewhere : (ws : List ℕ) (s v bit : ℕ) → AreLimbs ws → s / 64 < length ws → ChangesBit ws s v bit → (i : ℕ) → i ≢ s → bit_at (number_of (set ws (s / 64) v)) i ≡ bit_at (number_of ws) i
bit_elsewhere ws s v bit fit within h i apart =
    bit_at-number_of (set ws (s / 64) v) i (AreLimbs-set ws (s / 64) v fit h.fits)
    ∙ elim (cases_eq (i / 64) (s / 64)) [
      | inl e ↦
          let far : (i % 64) ≢ (s % 64) = omega arith in
          let same : get_or (set ws (s / 64) v) (i / 64) 0 ≡ v = rw e (get_or-set_same ws (s / 64) v 0 within) in
          rw (same, h.others (i % 64) (omega arith) far, ← e) (sym (bit_at-number_of ws i fit))
      | inr ne ↦ rw (get_or-set_other ws (s / 64) (i / 64) v 0 ne) (sym (bit_at-number_of ws i fit))
    ]

-- the limb with the bit of s set, and the one with it clear
abbrev pub with_bit : List ℕ → ℕ → ℕ
with_bit ws s = bit_or (get_or ws (s / 64) 0) (1 * 2 ^ (s % 64) % 2 ^ 64)

abbrev pub without_bit : List ℕ → ℕ → ℕ
without_bit ws s = bit_and (get_or ws (s / 64) 0) (bit_not w64 (1 * 2 ^ (s % 64) % 2 ^ 64))

pub with_bit-lt : (ws : List ℕ) (s : ℕ) → AreLimbs ws → with_bit ws s < 2 ^ 64
with_bit-lt ws s fit = or_lt 64 (get_or ws (s / 64) 0) (1 * 2 ^ (s % 64) % 2 ^ 64) (AreLimbs-at ws (s / 64) fit) (omega arith)

pub has-insert : (ws : List ℕ) (s : ℕ) → AreLimbs ws → s / 64 < length ws → (i : ℕ) → has (number_of (set ws (s / 64) (with_bit ws s))) i ≡ (eqb i s || has (number_of ws) i)
unfolding has
has-insert ws s fit within i =
    let w = get_or ws (s / 64) 0 in
    let k : s % 64 < 64 = omega arith in
    let change : ChangesBit ws s (with_bit ws s) 1 = record {
      fits = with_bit-lt ws s fit;
      here = bit_at_set_same w64 w (s % 64) k;
      others = λ j _ apart. bit_at_set_other w64 w (s % 64) k j apart;
    } in
    elim (cases_eq i s) [
      | inl e ↦ rw (e, bit_here ws s (with_bit ws s) 1 fit within change, eq-eqb s s refl) refl
      | inr ne ↦ rw (bit_elsewhere ws s (with_bit ws s) 1 fit within change i ne, ne_eqb i s ne) refl
    ]

pub without_bit-lt : (ws : List ℕ) (s : ℕ) → AreLimbs ws → without_bit ws s < 2 ^ 64
without_bit-lt ws s fit = and_lt 64 (get_or ws (s / 64) 0) (bit_not w64 (1 * 2 ^ (s % 64) % 2 ^ 64)) (AreLimbs-at ws (s / 64) fit) (omega arith)

pub has-remove : (ws : List ℕ) (s : ℕ) → AreLimbs ws → s / 64 < length ws → (i : ℕ) → has (number_of (set ws (s / 64) (without_bit ws s))) i ≡ (not (eqb i s) && has (number_of ws) i)
unfolding has
has-remove ws s fit within i =
    let w = get_or ws (s / 64) 0 in
    let k : s % 64 < 64 = omega arith in
    let change : ChangesBit ws s (without_bit ws s) 0 = record {
      fits = without_bit-lt ws s fit;
      here = bit_at_clear_same w64 w (s % 64) k;
      others = λ j small apart. bit_at_clear_other w64 w (s % 64) k j small apart;
    } in
    elim (cases_eq i s) [
      | inl e ↦ rw (e, bit_here ws s (without_bit ws s) 0 fit within change, eq-eqb s s refl) refl
      | inr ne ↦ rw (bit_elsewhere ws s (without_bit ws s) 0 fit within change i ne, ne_eqb i s ne) refl
    ]

-- a limb of the complement below n: the limb that begins at the bit `from`
abbrev pub other_bits : ℕ → ℕ → ℕ → ℕ
other_bits n from w = bit_and (bit_not w64 w) (2 ^ min (n - from) 64 - 1)

bit_at_other_bits : (n from w j : ℕ) → w < 2 ^ 64 → j < 64 → eqb (bit_at (other_bits n from w) j) 1 ≡ (nat_lt (from + j) n && not (eqb (bit_at w j) 1))
bit_at_other_bits n from w j fit small =
    rw (bit_at_and (bit_not w64 w) (2 ^ min (n - from) 64 - 1) j, bit_at_not w64 w j fit small)
    (elim (cases_lt (from + j) n) [
      | inl lt ↦ rw (bit_at_ones (min (n - from) 64) j (omega arith), lt-ltb (from + j) n lt) (flipped (bit_at w j) (bit_at-lt w j))
      | inr le ↦ rw (bit_at_ones_above (min (n - from) 64) j (omega arith), le-ltb (from + j) n le) (none (1 - bit_at w j))
    ])
  where
    flipped : (b : ℕ) → b < 2 → eqb (min (1 - b) 1) 1 ≡ not (eqb b 1)
    flipped zero lt = refl
    flipped (suc zero) lt = refl
    flipped (suc (suc b)) lt = absurd (omega arith)

    none : (b : ℕ) → eqb (min b 0) 1 ≡ false
    none b = ne_eqb (min b 0) 1 (λ e. omega (arith, e))

pub has-complement : (n : ℕ) (ws vs : List ℕ) → n ≤ 1024 → AreSixteenLimbs ws → AreSixteenLimbs vs → ((k : ℕ) → k < 16 → get_or vs k 0 ≡ other_bits n (64 * k) (get_or ws k 0)) → (i : ℕ) → has (number_of vs) i ≡ (nat_lt i n && not (has (number_of ws) i))
has-complement n ws vs top p q each i =
    rw (has-number_of vs i q.0, has-number_of ws i p.0)
    (elim (cases_lt (i / 64) 16) [
      | inl lt ↦
          let parts : 64 * (i / 64) + i % 64 ≡ i = omega arith in
          rw (each (i / 64) lt) (rw parts at (bit_at_other_bits n (64 * (i / 64)) (get_or ws (i / 64) 0) (i % 64) (AreLimbs-at ws (i / 64) p.0) (omega arith)))
      | inr le ↦
          rw (get_or_past vs (i / 64) 0 (omega (arith, q.1)), bit_at-zero (i % 64), le-ltb i n (omega arith)) refl
    ])

pub other_bits-lt : (n from w : ℕ) → w < 2 ^ 64 → other_bits n from w < 2 ^ 64
other_bits-lt n from w fit =
    let p = and_le_l (bit_not w64 w) (2 ^ min (n - from) 64 - 1) in
    omega (arith, p)

-- nothing of it from n on
pub other_bits_past : (n from w : ℕ) → n ≤ from → other_bits n from w ≡ 0
other_bits_past n from w past =
    let none : min (n - from) 64 ≡ 0 = omega (arith, past) in
    let within = and_le_r (bit_not w64 w) 0 in
    rw none (omega (arith, within))

pub other_bits_more : (n : ℕ) (ws vs : List ℕ) (i : ℕ) → i < length vs → ((k : ℕ) → k < i → get_or vs k 0 ≡ other_bits n (64 * k) (get_or ws k 0)) → (k : ℕ) → k < i + 1 → get_or (set vs i (other_bits n (64 * i) (get_or ws i 0))) k 0 ≡ other_bits n (64 * k) (get_or ws k 0)
other_bits_more n ws vs i within each k below =
    elim (cases_eq k i) [
      | inl e ↦ rw e (get_or-set_same vs i (other_bits n (64 * i) (get_or ws i 0)) 0 within)
      | inr ne ↦ get_or-set_other vs i k (other_bits n (64 * i) (get_or ws i 0)) 0 ne ∙ each k (omega arith)
    ]

-- no member from the number of bits on
pub has_past : (ws : List ℕ) (s : ℕ) → AreLimbs ws → IsTrue (has (number_of ws) s) → s < 64 * length ws
has_past ws s fit h =
    elim (cases_lt (s / 64) (length ws)) [
      | inl lt ↦ omega arith
      | inr le ↦
          let none : bit_at (get_or ws (s / 64) 0) (s % 64) ≡ 0 = rw (get_or_past ws (s / 64) 0 le) (bit_at-zero (s % 64)) in
          let one = eqb-true _ 1 (sym (has-number_of ws s fit) ∙ h) in
          absurd (omega (arith, none, one))
    ]
