-- The lowest hexadecimal digits of a number, and how they are written.
use Rattle.std.proofs.Common.{◌≡◌, ◌≢◌, ℕ, zero, suc, ◌+◌, ◌*◌, ◌-◌, ◌/◌, ◌%◌, ◌^◌, ◌<◌, ◌≤◌, Bool, true, T, ◌&&◌, eqb, eqb→eq, refl, sym, ap, ◌∙◌, inl, inr, arith, eq-zero-or-pos}
use Rattle.std.proofs.Common.{List, [], ◌∷◌, ◌++◌, length, get_or, take, drop, map, append-nil, append_assoc, set, length-append, length-drop, length-set, length-take-le}
use lib.Ieee.Fits.{and_l, and_r}
use Rattle.std.specs.Char.{digit_char}
use Rattle.std.specs.Fmt.{decimal}
use Rattle.std.specs.Prelude.{codes}
use Rattle.std.specs.Int.Count.{count_leading_zeros}
use Rattle.std.specs.Int.Digits.{digits_of}
use Rattle.std.proofs.Math.Nat.{pow-suc, pow-le-pow_right, mul-le-mul_right, div-eq_of_lt}
use Rattle.std.proofs.Math.Pow.{mod-mod-pow}
use Rattle.std.proofs.Math.Seq.{take-add, take-append_seam}
use Rattle.std.proofs.lemmas.List.{length-map, map-append, take_more_set}
use Rattle.std.proofs.lemmas.Nat.{leading_length, le-div, pow_pos, pow-add, shr-shr, field_of}
use Rattle.cw_core.specs.Digits.{lowest_digits}
use Rattle.cw_core.specs.Numerals.{hexadecimal, hexadecimal_digits}
use Rattle.cw_core.specs.Limbs.{number_of, AreLimbs}
use Rattle.cw_core.specs.declared.line.TheConstants.{PAIRS}
use Rattle.cw_core.proofs.Hexadecimals.{hexadecimal_digits_positive}
use Rattle.cw_core.proofs.Nibbles.{digits_more, limb-le}
use Rattle.cw_core.proofs.Texts.{length-hexadecimal}
use Rattle.cw_core.proofs.Limbs.{AreLimbs-at}

-- the digits of a number are those of its high part and the lowest ones
digits_split : (n count : ℕ) → ((i : ℕ) → i < count → 0 < n / 2 ^ (4 * i)) → digits_of 16 n ≡ digits_of 16 (n / 2 ^ (4 * count)) ++ lowest_digits count n
unfolding lowest_digits
digits_split n zero some =
    let e : n / 2 ^ (4 * 0) ≡ n = omega arith in
    rw e (sym (append-nil (digits_of 16 n)))
digits_split n (suc count) some =
    let e : count + 1 ≡ suc count = omega arith in
    let digit = n / 2 ^ (4 * count) % 2 ^ 4 in
    let step : digits_of 16 (n / 2 ^ (4 * count)) ≡ digits_of 16 (n / 2 ^ (4 * suc count)) ++ digit ∷ [] =
    digits_more n count (some count (omega arith)) ∙ ap (λ (k : ℕ). digits_of 16 (n / 2 ^ (4 * k)) ++ digit ∷ []) e in
    digits_split n count (λ i below. some i (omega (arith, below)))
    ∙ ap (λ (z : List ℕ). z ++ lowest_digits count n) step
    ∙ append_assoc (digits_of 16 (n / 2 ^ (4 * suc count))) (digit ∷ []) (lowest_digits count n)

-- the lowest digits up to the first that isn't zero are all digits
some_digits : (n count : ℕ) → 0 < count → 2 ^ (4 * (count - 1)) ≤ n → n / 2 ^ (4 * count) ≡ 0 → hexadecimal_digits n ≡ map digit_char (lowest_digits count n)
some_digits n count one low high =
    let pos : 0 < n = let p = pow_pos (4 * (count - 1)) in omega (arith, p, low) in
    let some : (i : ℕ) → i < count → 0 < n / 2 ^ (4 * i) = λ i below.
    let up : 2 ^ (4 * i) ≤ 2 ^ (4 * (count - 1)) = pow-le-pow_right (omega arith) (omega (arith, below, one)) in
    le-div 1 n (2 ^ (4 * i)) (pow_pos (4 * i)) (omega (arith, up, low)) in
    hexadecimal_digits_positive n pos
    ∙ ap (map digit_char) (digits_split n count some ∙ ap (λ (k : ℕ). digits_of 16 k ++ lowest_digits count n) high)

-- so many binary digits are so many hexadecimal ones
pub all_digits : (n bits count : ℕ) → n < 2 ^ bits → (0 < bits → 2 ^ (bits - 1) ≤ n) → bits ≢ 0 → count ≡ (bits + 3) / 4 → hexadecimal_digits n ≡ map digit_char (lowest_digits count n)
all_digits n bits count above first some is =
    let low = first (omega (arith, some)) in
    let near : 2 ^ (4 * (count - 1)) ≤ 2 ^ (bits - 1) = pow-le-pow_right (omega arith) (omega (arith, is, some)) in
    let far : 2 ^ bits ≤ 2 ^ (4 * count) = pow-le-pow_right (omega arith) (omega (arith, is)) in
    let within : n < 2 ^ (4 * count) = omega (arith, above, far) in
    some_digits n count (omega (arith, is, some)) (omega (arith, near, low)) (div-eq_of_lt within)

pub no_digits : (n bits : ℕ) → n < 2 ^ bits → bits ≡ 0 → hexadecimal_digits n ≡ map digit_char (lowest_digits 1 n)
unfolding hexadecimal_digits lowest_digits
no_digits n bits above none =
    let zero_alone : n ≡ 0 = let p = rw none at above in omega (arith, p) in
    rw zero_alone refl

length-lowest_digits : (count n : ℕ) → length (lowest_digits count n) ≡ count
unfolding lowest_digits
length-lowest_digits zero n = refl
length-lowest_digits (suc count) n = ap suc (length-lowest_digits count n)

-- how long the hexadecimal is
pub mask_digits : (n count : ℕ) → hexadecimal_digits n ≡ map digit_char (lowest_digits count n) → 2 + count ≡ length (hexadecimal n)
mask_digits n count e =
    let p = length-hexadecimal n in
    let q = ap length e ∙ length-map (lowest_digits count n) digit_char ∙ length-lowest_digits count n in
    omega (arith, p, q)

-- the highest limb that isn't zero has the first binary digit
pub first_bit : (ws : List ℕ) (i empty bits : ℕ) → AreLimbs ws → get_or ws i 0 ≢ 0 → empty ≡ count_leading_zeros 64 (get_or ws i 0) → bits ≡ 64 * i + 64 - empty → 2 ^ (bits - 1) ≤ number_of ws
first_bit ws i empty bits fit some is e =
    let (m, whole, lt, near) = leading_length 64 (get_or ws i 0) (AreLimbs-at ws i fit) in
    by_bits m whole lt near
  where
    by_bits : (m : ℕ) → count_leading_zeros 64 (get_or ws i 0) + m ≡ 64 → get_or ws i 0 < 2 ^ m → 2 ^ m ≤ 2 * get_or ws i 0 + 1 → 2 ^ (bits - 1) ≤ number_of ws
    by_bits zero whole lt near = absurd (some (omega (arith, lt)))
    by_bits (suc k) whole lt near =
        let half : 2 ^ k ≤ get_or ws i 0 = let p = pow-suc 2 k in omega (arith, p, near) in
        let same : k + 64 * i ≡ bits - 1 = omega (arith, whole, is, e) in
        let p = mul-le-mul_right (2 ^ (64 * i)) half in
        let q = limb-le ws i in
        let r = pow-add 2 k (64 * i) in
        rw (← same) (omega (arith, p, q, r))

-- ---- two digits a byte

are_pairs : ℕ → Bool
are_pairs zero = true
are_pairs (suc b) = (eqb (get_or PAIRS (2 * b) 0) (digit_char (b / 16)) && eqb (get_or PAIRS (2 * b + 1) 0) (digit_char (b % 16))) && are_pairs b

pairs_below : (n b : ℕ) → T (are_pairs n) → b < n → (get_or PAIRS (2 * b) 0 ≡ digit_char (b / 16)) × (get_or PAIRS (2 * b + 1) 0 ≡ digit_char (b % 16))
unfolding are_pairs
pairs_below zero b all below = absurd (omega arith)
pairs_below (suc n) b all below =
    elim (eq-zero-or-pos (n - b)) [
      | inl z ↦ let e : b ≡ n = omega arith in let a = and_l _ (are_pairs n) all in rw e (eqb→eq _ _ (and_l _ _ a), eqb→eq _ _ (and_r _ _ a))
      | inr g ↦ pairs_below n b (and_r _ (are_pairs n) all) (omega arith)
    ]

pub PAIRS_at : (b : ℕ) → b < 256 → (get_or PAIRS (2 * b) 0 ≡ digit_char (b / 16)) × (get_or PAIRS (2 * b + 1) 0 ≡ digit_char (b % 16))
unfolding are_pairs
PAIRS_at b below = pairs_below 256 b tt below

-- the highest two of the lowest digits are those of a byte
pub two_more : (n index byte : ℕ) → byte ≡ n / 2 ^ (8 * index) % 2 ^ 8 → lowest_digits (2 * (index + 1)) n ≡ byte / 16 ∷ byte % 16 ∷ lowest_digits (2 * index) n
unfolding lowest_digits
two_more n index byte is =
    let e : 2 * (index + 1) ≡ suc (suc (2 * index)) = omega arith in
    let low : 4 * (2 * index) ≡ 8 * index = omega arith in
    let high : n / 2 ^ (4 * suc (2 * index)) ≡ n / 2 ^ (8 * index) / 16 = let f : 8 * index + 4 ≡ 4 * suc (2 * index) = omega arith in sym (shr-shr n (8 * index) 4 ∙ ap (λ (k : ℕ). n / 2 ^ k) f) in
    let first : n / 2 ^ (4 * suc (2 * index)) % 2 ^ 4 ≡ byte / 16 = rw (high, is) (omega arith) in
    let second : n / 2 ^ (4 * (2 * index)) % 2 ^ 4 ≡ byte % 16 = rw (low, is) (omega arith) in
    rw (e, first, second) refl

-- an odd number of digits is one, and two a byte
odd_digits : (n count : ℕ) → count % 2 ≡ 1 → lowest_digits count n ≡ n / 2 ^ (4 * (count - 1)) % 2 ^ 4 ∷ lowest_digits (2 * (count / 2)) n
unfolding lowest_digits
odd_digits n count odd =
    let e : count ≡ suc (2 * (count / 2)) = omega (arith, odd) in
    let f : count - 1 ≡ 2 * (count / 2) = omega (arith, odd) in
    rw f (ap (λ (k : ℕ). lowest_digits k n) e)

pub odd_put : (old : List ℕ) (n count digit glyph : ℕ) → count % 2 ≡ 1 → digit ≡ n / 2 ^ (4 * (count - 1)) % 2 ^ 4 → glyph ≡ digit_char digit
    → (old ++ glyph ∷ []) ++ map digit_char (lowest_digits (2 * (count / 2)) n) ≡ old ++ map digit_char (lowest_digits count n)
odd_put old n count digit glyph odd is spelled =
    append_assoc old (glyph ∷ []) (map digit_char (lowest_digits (2 * (count / 2)) n))
    ∙ rw (spelled, is) (ap (λ (z : List ℕ). old ++ map digit_char z) (sym (odd_digits n count odd)))

-- two bytes that are written leave the length
pub as_long : (xs : List ℕ) (i j x y long : ℕ) → length xs ≡ long → length (set (set xs i x) j y) ≡ long
as_long xs i j x y long e = length-set (set xs i x) j y ∙ length-set xs i x ∙ e

pub kept : (xs : List ℕ) (i j x y most : ℕ) → most ≤ length xs → most ≤ length (set (set xs i x) j y)
kept xs i j x y most room = rw (length-set (set xs i x) j y, length-set xs i x) room

-- two bytes more at the end of what is done
pub take_two : (xs : List ℕ) (i x y : ℕ) → i + 1 < length xs → take (i + 2) (set (set xs i x) (i + 1) y) ≡ take i xs ++ (x ∷ y ∷ [])
take_two xs i x y within =
    let e : i + 1 + 1 ≡ i + 2 = omega arith in
    rw (← e) (take_more_set (set xs i x) (i + 1) y (omega (arith, within, length-set xs i x))
    ∙ ap (λ (z : List ℕ). z ++ y ∷ []) (take_more_set xs i x (omega (arith, within)))
    ∙ append_assoc (take i xs) (x ∷ []) (y ∷ []))

-- what is written and what is left to write are the same whole after one byte more
pub pair_put : (done after whole : List ℕ) (n left index byte x y : ℕ) → left ≡ index + 1 → byte ≡ n / 2 ^ (8 * index) % 2 ^ 8 → x ≡ digit_char (byte / 16) → y ≡ digit_char (byte % 16)
    → after ≡ done ++ (x ∷ y ∷ []) → done ++ map digit_char (lowest_digits (2 * left) n) ≡ whole → after ++ map digit_char (lowest_digits (2 * index) n) ≡ whole
pair_put done after whole n left index byte x y more is first second put so_far =
    let rest = map digit_char (lowest_digits (2 * index) n) in
    ap (λ (z : List ℕ). z ++ rest) put
    ∙ append_assoc done (x ∷ y ∷ []) rest
    ∙ rw (first, second) (ap (λ (z : List ℕ). done ++ map digit_char z) (sym (two_more n index byte is)))
    ∙ (rw more at so_far)

-- the lowest digits of a number are those of its upper part and those below
lowest_split : (k m n : ℕ) → k ≤ 16 → lowest_digits (k + m) n ≡ lowest_digits k (n / 2 ^ (4 * m) % 2 ^ 64) ++ lowest_digits m n
unfolding lowest_digits
lowest_split zero m n few = let e : zero + m ≡ m = omega arith in ap (λ (j : ℕ). lowest_digits j n) e
lowest_split (suc k) m n few =
    let upper = n / 2 ^ (4 * m) in
    let e : suc k + m ≡ suc (k + m) = omega arith in
    let f : 4 * (k + m) ≡ 4 * m + 4 * k = omega arith in
    let g : (64 - (4 + 4 * k)) + (4 + 4 * k) ≡ 64 = omega (arith, few) in
    let whole : upper % 2 ^ ((64 - (4 + 4 * k)) + (4 + 4 * k)) ≡ upper % 2 ^ 64 = ap (λ (j : ℕ). upper % 2 ^ j) g in
    let front : upper % 2 ^ (4 + 4 * k) ≡ upper % 2 ^ 64 % 2 ^ (4 + 4 * k) = sym (mod-mod-pow upper (64 - (4 + 4 * k)) (4 + 4 * k)) ∙ ap (λ (z : ℕ). z % 2 ^ (4 + 4 * k)) whole in
    let digit : n / 2 ^ (4 * (k + m)) % 2 ^ 4 ≡ upper % 2 ^ 64 / 2 ^ (4 * k) % 2 ^ 4 =
    ap (λ (j : ℕ). n / 2 ^ j % 2 ^ 4) f
    ∙ ap (λ (z : ℕ). z % 2 ^ 4) (sym (shr-shr n (4 * m) (4 * k)))
    ∙ sym (field_of upper 4 (4 * k))
    ∙ ap (λ (z : ℕ). z / 2 ^ (4 * k)) front
    ∙ field_of (upper % 2 ^ 64) 4 (4 * k) in
    ap (λ (j : ℕ). lowest_digits j n) e
    ∙ ap (λ (z : ℕ). z ∷ lowest_digits (k + m) n) digit
    ∙ ap (λ (z : List ℕ). (upper % 2 ^ 64 / 2 ^ (4 * k) % 2 ^ 4) ∷ z) (lowest_split k m n (omega (arith, few)))

-- a limb that is written in the place of 16 bytes
pub take_limb : (xs ys rest : List ℕ) (at : ℕ) → at ≤ length xs → length ys ≡ 16 → take (at + 16) (take at xs ++ (ys ++ rest)) ≡ take at xs ++ ys
take_limb xs ys rest at within long =
    let done = take at xs ++ ys in
    let e : at + 16 ≡ length done = let p = length-append (take at xs) ys in let q = length-take-le at xs within in omega (arith, p, q, long) in
    ap (take (at + 16)) (sym (append_assoc (take at xs) ys rest))
    ∙ ap (λ (k : ℕ). take k (done ++ rest)) e
    ∙ take-append_seam done rest

pub limb_kept : (xs ys : List ℕ) (at count most : ℕ) → length ys ≡ 16 → count ≡ 16 → at + 16 ≤ length xs → most ≤ length xs
    → most ≤ length (take at xs ++ (ys ++ drop count (drop at xs)))
limb_kept xs ys at count most long same within room =
    let rest = drop count (drop at xs) in
    let front = length-take-le at xs (omega (arith, within)) in
    let back = length-drop count (drop at xs) ∙ ap (λ (k : ℕ). k - count) (length-drop at xs) in
    omega (arith, length-append (take at xs) (ys ++ rest), length-append ys rest, front, back, long, same, within, room)

pub length-lowest_glyphs : (count n : ℕ) → length (map digit_char (lowest_digits count n)) ≡ count
length-lowest_glyphs count n = length-map (lowest_digits count n) digit_char ∙ length-lowest_digits count n

-- what is written and what is left to write are the same whole after one limb more
pub limb_put : (done after digits whole : List ℕ) (n left index limb : ℕ) → left ≡ index + 8 → index % 8 ≡ 0 → limb ≡ n / 2 ^ (64 * (index / 8)) % 2 ^ 64
    → digits ≡ map digit_char (lowest_digits 16 limb) → after ≡ done ++ digits → done ++ map digit_char (lowest_digits (2 * left) n) ≡ whole
    → after ++ map digit_char (lowest_digits (2 * index) n) ≡ whole
limb_put done after digits whole n left index limb more even is spelled put so_far =
    let below = lowest_digits (2 * index) n in
    let e : 2 * left ≡ 16 + 2 * index = omega (arith, more) in
    let f : 64 * (index / 8) ≡ 4 * (2 * index) = omega (arith, even) in
    let same : limb ≡ n / 2 ^ (4 * (2 * index)) % 2 ^ 64 = is ∙ ap (λ (k : ℕ). n / 2 ^ k % 2 ^ 64) f in
    let split : lowest_digits (2 * left) n ≡ lowest_digits 16 limb ++ below =
    ap (λ (k : ℕ). lowest_digits k n) e ∙ lowest_split 16 (2 * index) n (omega arith) ∙ ap (λ (z : ℕ). lowest_digits 16 z ++ below) (sym same) in
    ap (λ (z : List ℕ). z ++ map digit_char below) put
    ∙ append_assoc done digits (map digit_char below)
    ∙ ap (λ (z : List ℕ). done ++ (z ++ map digit_char below)) spelled
    ∙ ap (λ (z : List ℕ). done ++ z) (sym (map-append digit_char (lowest_digits 16 limb) below))
    ∙ ap (λ (z : List ℕ). done ++ map digit_char z) (sym split)
    ∙ so_far

-- no byte is left
pub none_left : (done whole : List ℕ) (n left : ℕ) → left ≡ 0 → done ++ map digit_char (lowest_digits (2 * left) n) ≡ whole → done ≡ whole
unfolding lowest_digits
none_left done whole n left none e = sym (append-nil done) ∙ (rw none at e)

-- the prefix, the first digit where their count is odd, and the others
pub mask_put : (old first second whole : List ℕ) (n count : ℕ) → first ≡ old ++ codes "0x"
    → second ++ map digit_char (lowest_digits (2 * (count / 2)) n) ≡ first ++ map digit_char (lowest_digits count n)
    → whole ≡ second ++ map digit_char (lowest_digits (2 * (count / 2)) n) → hexadecimal_digits n ≡ map digit_char (lowest_digits count n) → whole ≡ old ++ hexadecimal n
unfolding hexadecimal
mask_put old first second whole n count prefix odd rest all =
    rest
    ∙ odd
    ∙ ap (λ (z : List ℕ). z ++ map digit_char (lowest_digits count n)) prefix
    ∙ append_assoc old (codes "0x") (map digit_char (lowest_digits count n))
    ∙ ap (λ (z : List ℕ). old ++ (codes "0x" ++ z)) (sym all)

-- digits that were written from an index on
pub number_put : (old new : List ℕ) (at from end n : ℕ) → at ≡ from → from + length (decimal n) ≡ end → drop at new ≡ decimal n ++ drop end old → take at new ≡ take at old
    → take end new ≡ take from old ++ decimal n
number_put old new at from end n same sum written before =
    rw (← same) (ap (λ (k : ℕ). take k new) (sym sum ∙ ap (λ (k : ℕ). k + length (decimal n)) (sym same))
    ∙ take-add at (length (decimal n)) new
    ∙ ap (λ (z : List ℕ). z ++ take (length (decimal n)) (drop at new)) before
    ∙ ap (λ (z : List ℕ). take at old ++ z) (ap (take (length (decimal n))) written ∙ take-append_seam (decimal n) (drop end old)))
