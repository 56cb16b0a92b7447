-- Sets that meet, and the first rule whose last literals a set meets.
use Rattle.std.proofs.Common.{◌≡◌, ◌≢◌, ℕ, ◌+◌, ◌*◌, ◌<◌, ◌^◌, List, [], ◌∷◌, Bool, true, false, cond, ◌&&◌, ◌||◌, nat_eq, Some, refl, sym, ap, ap₂, ◌∙◌, arith, eqb-true, eq-eqb, zero-mul}
use Rattle.std.specs.Int.{bit_at}
use Rattle.std.specs.Int.RustNames.{bit_or, bit_and}
use Rattle.std.proofs.lemmas.Nat.Bits.{bit_at_or, bit_at_and, and_pow, bit_at-lt, same_from_bits, bit_at-zero}
use Rattle.std.proofs.lemmas.Nat.{and_comm, pow_pos}
use Rattle.cw_lemmas.proofs.Truths.{and_true, and_false}
use Rattle.cw_rights.specs.Trees.{Tree, nothing, never, one, seq, alt, star, plus, maybe, count}
use Rattle.cw_rights.specs.Policies.{PlainRule}
use Rattle.cw_dfa.specs.Sets.{has, skips, ends}
use Rattle.cw_dfa.specs.Verdicts.{verdict}
use Rattle.cw_dfa.specs.Tables.{lasts, meets, lasts_of, first_met}

and_union : (set a b : ℕ) → bit_and set (bit_or a b) ≡ bit_or (bit_and set a) (bit_and set b)
and_union set a b = same_from_bits _ _ (λ i.
    let x = bit_at_and set (bit_or a b) i in
    let y = bit_at_or a b i in
    let z = bit_at_or (bit_and set a) (bit_and set b) i in
    let u = bit_at_and set a i in
    let v = bit_at_and set b i in
    omega arith)

and_none : (set : ℕ) → bit_and set 0 ≡ 0
and_none set = same_from_bits _ _ (λ i. let x = bit_at_and set 0 i in let y = bit_at-zero i in omega arith)

-- a union is empty where both sides are
left_none : (a b : ℕ) → bit_or a b ≡ 0 → a ≡ 0
left_none a b e = same_from_bits _ _ (λ i. let x = bit_at_or a b i in let y = bit_at-zero i in let z : bit_at (bit_or a b) i ≡ bit_at 0 i = ap (λ n. bit_at n i) e in omega arith)

right_none : (a b : ℕ) → bit_or a b ≡ 0 → b ≡ 0
right_none a b e = same_from_bits _ _ (λ i. let x = bit_at_or a b i in let y = bit_at-zero i in let z : bit_at (bit_or a b) i ≡ bit_at 0 i = ap (λ n. bit_at n i) e in omega arith)

abbrev some : ℕ → Bool
some n = cond (nat_eq n 0) false true

some_or : (a b : ℕ) → some (bit_or a b) ≡ (some a || some b)
some_or a b = by (nat_eq a 0) (nat_eq b 0) (nat_eq (bit_or a b) 0) refl refl refl
  where
    by : (s t u : Bool) → nat_eq a 0 ≡ s → nat_eq b 0 ≡ t → nat_eq (bit_or a b) 0 ≡ u → cond u false true ≡ (cond s false true || cond t false true)
    by true true true p q r = refl
    by true true false p q r =
        let x : a ≡ 0 = eqb-true a 0 p in
        let y : b ≡ 0 = eqb-true b 0 q in
        let z : bit_or a b ≡ 0 = ap₂ bit_or x y in
        let w = eq-eqb (bit_or a b) 0 z in
        absurd (cc)
    by false t true p q r = let z = eq-eqb a 0 (left_none a b (eqb-true _ 0 r)) in absurd (cc)
    by false t false p q r = refl
    by true false true p q r = let z = eq-eqb b 0 (right_none a b (eqb-true _ 0 r)) in absurd (cc)
    by true false false p q r = refl

pub meets_or : (set a b : ℕ) → meets set (bit_or a b) ≡ (meets set a || meets set b)
meets_or set a b = ap some (and_union set a b) ∙ some_or (bit_and set a) (bit_and set b)

pub meets_none : (set : ℕ) → meets set 0 ≡ false
meets_none set = ap some (and_none set)

pub meets_pow : (set k : ℕ) → meets set (2 ^ k) ≡ has set k
meets_pow set k = ap some (and_pow set k) ∙ by (nat_eq (bit_at set k) 1) refl
  where
    by : (t : Bool) → nat_eq (bit_at set k) 1 ≡ t → some (bit_at set k * 2 ^ k) ≡ t
    by true e =
        let x : bit_at set k ≡ 1 = eqb-true _ 1 e in
        let z = pow_pos k in
        some_of (bit_at set k * 2 ^ k) (rw x (omega arith))
      where
        some_of : (n : ℕ) → 0 < n → some n ≡ true
        some_of n l = pick (nat_eq n 0) refl
          where
            pick : (u : Bool) → nat_eq n 0 ≡ u → cond u false true ≡ true
            pick true q = let y : n ≡ 0 = eqb-true n 0 q in absurd (omega arith)
            pick false q = refl
    by false e =
        let n : bit_at set k ≢ 1 = λ q. let z = eq-eqb (bit_at set k) 1 q in cc in
        let l = bit_at-lt set k in
        let x : bit_at set k ≡ 0 = omega arith in
        let y : bit_at set k * 2 ^ k ≡ 0 = rw x (zero-mul (2 ^ k)) in
        ap some y

pub pow_meets : (set p : ℕ) → meets (2 ^ p) set ≡ has set p
pow_meets set p = ap some (and_comm (2 ^ p) set) ∙ meets_pow set p

-- an expression may end where the set meets its last literals
pub ends_lasts : (r : Tree) (k set : ℕ) → ends r k set ≡ meets set (lasts r k)
ends_lasts nothing k set = sym (meets_none set)
ends_lasts never k set = sym (meets_none set)
ends_lasts (one l) k set = sym (meets_pow set k)
ends_lasts (seq r s) k set = ap₂ (λ a b. (a && skips s) || b) (ends_lasts r k set) (ends_lasts s (k + count r) set) ∙ ap (λ a. a || meets set (lasts s (k + count r))) (by (skips s))
    ∙ sym (meets_or set (cond (skips s) (lasts r k) 0) (lasts s (k + count r)))
  where
    by : (t : Bool) → (meets set (lasts r k) && t) ≡ meets set (cond t (lasts r k) 0)
    by true = and_true (meets set (lasts r k))
    by false = and_false (meets set (lasts r k)) ∙ sym (meets_none set)
ends_lasts (alt r s) k set = ap₂ ◌||◌ (ends_lasts r k set) (ends_lasts s (k + count r) set) ∙ sym (meets_or set (lasts r k) (lasts s (k + count r)))
ends_lasts (star r) k set = ends_lasts r k set
ends_lasts (plus r) k set = ends_lasts r k set
ends_lasts (maybe r) k set = ends_lasts r k set

pub ends_pow : (r : Tree) (k p : ℕ) → ends r k (2 ^ p) ≡ has (lasts r k) p
ends_pow r k p = ends_lasts r k (2 ^ p) ∙ pow_meets (lasts r k) p

-- the first rule that may end after a literal of the set
pub verdict_met : (rules : List PlainRule) (n k set : ℕ) → verdict rules n k set ≡ first_met (lasts_of rules k) n set
verdict_met [] n k set = refl
verdict_met (r ∷ rest) n k set = ap₂ (λ t o. cond t (Some n) o) (ends_lasts r.bad k set) (verdict_met rest (n + 1) (k + count r.bad) set)
