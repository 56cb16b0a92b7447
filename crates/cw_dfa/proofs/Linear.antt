-- A union of sets is followed by the union of what follows each.
use Rattle.std.proofs.Common.{◌≡◌, ℕ, zero, suc, ◌+◌, ◌*◌, ◌^◌, Bool, true, false, cond, ◌&&◌, ◌||◌, refl, sym, ap, ap₂, ◌∙◌, arith, ⊎_elim, ◌≢◌, eqb-true, eq-eqb, add-one, zero-mul as zero_times}
use Rattle.std.specs.Int.{bit_at}
use Rattle.std.specs.Int.RustNames.{bit_or, bit_and}
use Rattle.std.proofs.lemmas.Nat.Bits.{bit_at_or, bit_at_and, and_pow, bit_at-lt, same_from_bits, bit_at-zero}
use Rattle.std.proofs.lemmas.Nat.{and_comm}
use Rattle.cw_rights.specs.declared.words.Letter.{Letter}
use Rattle.cw_rights.specs.Words.{fits}
use Rattle.cw_rights.specs.Trees.{Tree, nothing, never, one, seq, alt, star, plus, maybe, count}
use Rattle.cw_dfa.specs.Sets.{has, skips, ends, reads}
use Rattle.cw_dfa.proofs.Sums.{or_zero}
use Rattle.cw_dfa.specs.Tables.{goes, unite}
use Rattle.std.proofs.lemmas.Bool.{or_cases, or_left, or_right}
use Rattle.std.specs.Cmp.{both_ways as same_bool}
use Rattle.cw_dfa.proofs.Bools.{has_or_cases, has_or_left, has_or_right, has-zero}

pub has_or : (a b i : ℕ) → has (bit_or a b) i ≡ (has a i || has b i)
has_or a b i = same_bool _ _ (λ e. ⊎_elim (λ x. or_left _ _ x) (λ x. or_right _ _ x) (has_or_cases a b i e))
    (λ e. ⊎_elim (λ x. has_or_left a b i x) (λ x. has_or_right a b i x) (or_cases (has a i) (has b i) e))

mix : (a b s c d : Bool) → (((a || b) && s) || (c || d)) ≡ (((a && s) || c) || ((b && s) || d))
mix true true true c d = refl
mix true true false true d = refl
mix true true false false d = refl
mix true false true c d = refl
mix true false false true d = refl
mix true false false false d = refl
mix false true true true d = refl
mix false true true false d = refl
mix false true false true d = refl
mix false true false false d = refl
mix false false s true d = refl
mix false false s false d = refl

swap : (a b c d : Bool) → ((a || b) || (c || d)) ≡ ((a || c) || (b || d))
swap true b true d = refl
swap true b false d = refl
swap false true true d = refl
swap false true false d = refl
swap false false c d = refl

swap_or : (a b c d : ℕ) → bit_or (bit_or a b) (bit_or c d) ≡ bit_or (bit_or a c) (bit_or b d)
swap_or a b c d = same_from_bits _ _ (λ i.
    let x = bit_at_or (bit_or a b) (bit_or c d) i in
    let y = bit_at_or a b i in
    let z = bit_at_or c d i in
    let u = bit_at_or (bit_or a c) (bit_or b d) i in
    let v = bit_at_or a c i in
    let w = bit_at_or b d i in
    omega arith)

pub ends_or : (r : Tree) (k s t : ℕ) → ends r k (bit_or s t) ≡ (ends r k s || ends r k t)
ends_or nothing k s t = refl
ends_or never k s t = refl
ends_or (one l) k s t = has_or s t k
ends_or (seq a b) k s t = rw (ends_or a k s t, ends_or b (k + count a) s t) (mix (ends a k s) (ends a k t) (skips b) (ends b (k + count a) s) (ends b (k + count a) t))
ends_or (alt a b) k s t = rw (ends_or a k s t, ends_or b (k + count a) s t) (swap (ends a k s) (ends a k t) (ends b (k + count a) s) (ends b (k + count a) t))
ends_or (star a) k s t = ends_or a k s t
ends_or (plus a) k s t = ends_or a k s t
ends_or (maybe a) k s t = ends_or a k s t

cond_or : (a b : Bool) (n : ℕ) → cond (a || b) n 0 ≡ bit_or (cond a n 0) (cond b n 0)
cond_or a b n = same_from_bits _ _ (by a b)
  where
    by : (a b : Bool) (i : ℕ) → bit_at (cond (a || b) n 0) i ≡ bit_at (bit_or (cond a n 0) (cond b n 0)) i
    by true true i = let x = bit_at_or n n i in omega arith
    by true false i = let x = bit_at_or n 0 i in let y = bit_at-zero i in omega arith
    by false true i = let x = bit_at_or 0 n i in let y = bit_at-zero i in omega arith
    by false false i = refl

pub goes_or : (r : Tree) (k : ℕ) (d e : Bool) (s t : ℕ) → goes r k (d || e) (bit_or s t) ≡ bit_or (goes r k d s) (goes r k e t)
goes_or nothing k d e s t = refl
goes_or never k d e s t = refl
goes_or (one l) k d e s t = cond_or d e (2 ^ k)
goes_or (seq a b) k d e s t =
    let f : (((d || e) && skips a) || ends a k (bit_or s t)) ≡ (((d && skips a) || ends a k s) || ((e && skips a) || ends a k t)) =
    rw (ends_or a k s t) (mix d e (skips a) (ends a k s) (ends a k t)) in
    ap₂ bit_or (goes_or a k d e s t) (ap (λ x. goes b (k + count a) x (bit_or s t)) f ∙ goes_or b (k + count a) ((d && skips a) || ends a k s) ((e && skips a) || ends a k t) s t)
    ∙ swap_or (goes a k d s) (goes a k e t) (goes b (k + count a) ((d && skips a) || ends a k s) s) (goes b (k + count a) ((e && skips a) || ends a k t) t)
goes_or (alt a b) k d e s t = ap₂ bit_or (goes_or a k d e s t) (goes_or b (k + count a) d e s t) ∙ swap_or (goes a k d s) (goes a k e t) (goes b (k + count a) d s) (goes b (k + count a) e t)
goes_or (star a) k d e s t =
    let f : ((d || e) || ends a k (bit_or s t)) ≡ ((d || ends a k s) || (e || ends a k t)) = rw (ends_or a k s t) (swap d e (ends a k s) (ends a k t)) in
    ap (λ x. goes a k x (bit_or s t)) f ∙ goes_or a k (d || ends a k s) (e || ends a k t) s t
goes_or (plus a) k d e s t =
    let f : ((d || e) || ends a k (bit_or s t)) ≡ ((d || ends a k s) || (e || ends a k t)) = rw (ends_or a k s t) (swap d e (ends a k s) (ends a k t)) in
    ap (λ x. goes a k x (bit_or s t)) f ∙ goes_or a k (d || ends a k s) (e || ends a k t) s t
goes_or (maybe a) k d e s t = goes_or a k d e s t

-- a mask that tells of each literal whether it matches the letter
abbrev pub Masks : Tree → ℕ → Letter → ℕ → Type 0
Masks nothing k c m = Unit {0}
Masks never k c m = Unit {0}
Masks (one l) k c m = has m k ≡ fits l c
Masks (seq a b) k c m = Masks a k c m × Masks b (k + count a) c m
Masks (alt a b) k c m = Masks a k c m × Masks b (k + count a) c m
Masks (star a) k c m = Masks a k c m
Masks (plus a) k c m = Masks a k c m
Masks (maybe a) k c m = Masks a k c m

and_or : (a b m : ℕ) → bit_or (bit_and a m) (bit_and b m) ≡ bit_and (bit_or a b) m
and_or a b m = same_from_bits _ _ (λ i.
    let x = bit_at_or (bit_and a m) (bit_and b m) i in
    let y = bit_at_and a m i in
    let z = bit_at_and b m i in
    let u = bit_at_and (bit_or a b) m i in
    let v = bit_at_or a b i in
    omega arith)

zero_and : (m : ℕ) → 0 ≡ bit_and 0 m
zero_and m = same_from_bits _ _ (λ i. let x = bit_at_and 0 m i in let y = bit_at-zero i in omega arith)

one_times : (n : ℕ) → 1 * n ≡ n
one_times n = omega arith

one_and : (k m : ℕ) (e f : Bool) → has m k ≡ f → cond (e && f) (2 ^ k) 0 ≡ bit_and (cond e (2 ^ k) 0) m
one_and k m false f h = zero_and m
one_and k m true true h = let x : bit_at m k ≡ 1 = eqb-true _ 1 h in sym (or_comm' k m x)
  where
    or_comm' : (k m : ℕ) → bit_at m k ≡ 1 → bit_and (2 ^ k) m ≡ 2 ^ k
    or_comm' k m x = and_comm (2 ^ k) m ∙ and_pow m k ∙ rw x (one_times (2 ^ k))
one_and k m true false h =
    let n : bit_at m k ≢ 1 = λ q. let z = eq-eqb _ 1 q in cc in
    let l = bit_at-lt m k in
    let x : bit_at m k ≡ 0 = omega arith in
    sym (and_comm (2 ^ k) m ∙ and_pow m k ∙ rw x (zero_times (2 ^ k)))

pub reads_masked : (r : Tree) (k : ℕ) (enter : Bool) (set : ℕ) (c : Letter) (m : ℕ) → Masks r k c m → reads r k enter set c ≡ bit_and (goes r k enter set) m
reads_masked nothing k enter set c m h = zero_and m
reads_masked never k enter set c m h = zero_and m
reads_masked (one l) k enter set c m h = one_and k m enter (fits l c) h
reads_masked (seq a b) k enter set c m h = ap₂ bit_or (reads_masked a k enter set c m h.0) (reads_masked b (k + count a) ((enter && skips a) || ends a k set) set c m h.1) ∙ and_or _ _ m
reads_masked (alt a b) k enter set c m h = ap₂ bit_or (reads_masked a k enter set c m h.0) (reads_masked b (k + count a) enter set c m h.1) ∙ and_or _ _ m
reads_masked (star a) k enter set c m h = reads_masked a k (enter || ends a k set) set c m h
reads_masked (plus a) k enter set c m h = reads_masked a k (enter || ends a k set) set c m h
reads_masked (maybe a) k enter set c m h = reads_masked a k enter set c m h

-- what may stand first, apart from what follows the set
pub goes_apart : (r : Tree) (k : ℕ) (enter : Bool) (set : ℕ) → goes r k enter set ≡ bit_or (goes r k false set) (goes r k enter 0)
goes_apart r k enter set = ap (λ s. goes r k enter s) (sym (or_zero set)) ∙ goes_or r k false enter set 0

pub ends_none : (r : Tree) (k : ℕ) → ends r k 0 ≡ false
ends_none nothing k = refl
ends_none never k = refl
ends_none (one l) k = has-zero k
ends_none (seq a b) k = rw (ends_none a k, ends_none b (k + count a)) refl
ends_none (alt a b) k = rw (ends_none a k, ends_none b (k + count a)) refl
ends_none (star a) k = ends_none a k
ends_none (plus a) k = ends_none a k
ends_none (maybe a) k = ends_none a k

pub goes_none : (r : Tree) (k : ℕ) → goes r k false 0 ≡ 0
goes_none nothing k = refl
goes_none never k = refl
goes_none (one l) k = refl
goes_none (seq a b) k = rw (ends_none a k, goes_none a k, goes_none b (k + count a)) refl
goes_none (alt a b) k = rw (goes_none a k, goes_none b (k + count a)) refl
goes_none (star a) k = rw (ends_none a k) (goes_none a k)
goes_none (plus a) k = rw (ends_none a k) (goes_none a k)
goes_none (maybe a) k = goes_none a k

-- the members below n
abbrev pub below : ℕ → ℕ → ℕ
below zero set = 0
below (suc n) set = bit_or (below n set) (cond (has set n) (2 ^ n) 0)

pub goes_united : (r : Tree) (k n set : ℕ) → goes r k false (below n set) ≡ unite (λ p. goes r k false (2 ^ p)) n set
unfolding unite
goes_united r k zero set = goes_none r k
goes_united r k (suc n) set = goes_or r k false false (below n set) (cond (has set n) (2 ^ n) 0) ∙ ap₂ bit_or (goes_united r k n set) (by (has set n))
  where
    by : (t : Bool) → goes r k false (cond t (2 ^ n) 0) ≡ cond t (goes r k false (2 ^ n)) 0
    by true = refl
    by false = goes_none r k

pub unite_none : (f : ℕ → ℕ) (set : ℕ) → unite f 0 set ≡ 0
unfolding unite
unite_none f set = refl

pub unite_more : (f : ℕ → ℕ) (n set : ℕ) → unite f (n + 1) set ≡ bit_or (unite f n set) (cond (has set n) (f n) 0)
unfolding unite
unite_more f n set = rw (add-one n) refl
