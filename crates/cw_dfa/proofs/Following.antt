-- What follows a set, by tables made once.
use Rattle.std.proofs.Common.{◌≡◌, ◌≢◌, ℕ, zero, suc, ◌+◌, ◌<◌, ◌≤◌, ◌^◌, List, Bool, true, false, cond, ◌||◌, max, nat_eq, nat_lt, refl, sym, ap, ap₂, ◌∙◌, subst, arith}
use Rattle.std.proofs.Common.{eqb-true, eq-eqb}
use Rattle.std.specs.Int.{bit_at}
use Rattle.std.specs.Int.RustNames.{bit_or, bit_and}
use Rattle.std.proofs.lemmas.Nat.Bits.{bit_at_or, bit_at-lt, bit_at-pow_same, bit_at-pow_other, bit_at_above, same_from_bits, bit_at-zero}
use Rattle.std.proofs.lemmas.Bool.Decides.{nat_tests}
use Rattle.std.proofs.lemmas.Nat.{or_comm}
use Rattle.cw_rights.specs.declared.words.Letter.{Letter}
use Rattle.cw_rights.specs.Trees.{Tree, nothing, never, one, seq, alt, star, plus, maybe, count}
use Rattle.cw_rights.specs.Words.{fits}
use Rattle.cw_rights.specs.Policies.{PlainRule}
use Rattle.cw_dfa.specs.Sets.{has, skips, ends}
use Rattle.cw_dfa.specs.Positions.{bad_of}
use Rattle.cw_dfa.specs.Verdicts.{next_of}
use Rattle.cw_dfa.specs.Tables.{goes, firsts, lasts, linked, followers, matching, unite}
use Rattle.cw_dfa.proofs.Bools.{has_pow, has-zero}
use Rattle.cw_dfa.proofs.Sums.{or_assoc}
use Rattle.cw_dfa.proofs.Linear.{goes_none, goes_apart, goes_united, ends_none, below, Masks, reads_masked, has_or}
use Rattle.cw_dfa.proofs.Meeting.{ends_pow}
use Rattle.cw_dfa.proofs.Picked.{picked_within}
use Rattle.cw_lemmas.proofs.Truths.{or_false}

-- what may stand first
pub goes_start : (r : Tree) (k : ℕ) (e : Bool) → goes r k e 0 ≡ cond e (firsts r k) 0
goes_start r k false = goes_none r k
goes_start nothing k true = refl
goes_start never k true = refl
goes_start (one l) k true = refl
goes_start (seq r s) k true =
    let f : (skips r || ends r k 0) ≡ skips r = ap (λ t. skips r || t) (ends_none r k) ∙ or_false (skips r) in
    ap₂ bit_or (goes_start r k true) (ap (λ t. goes s (k + count r) t 0) f ∙ goes_start s (k + count r) (skips r))
goes_start (alt r s) k true = ap₂ bit_or (goes_start r k true) (goes_start s (k + count r) true)
goes_start (star r) k true = goes_start r k true
goes_start (plus r) k true = goes_start r k true
goes_start (maybe r) k true = goes_start r k true

-- what may follow a literal that the expression ended with, or stand behind it
again : (r s : Tree) (k n p : ℕ) → goes s n false (2 ^ p) ≡ followers s n p → goes s n (ends r k (2 ^ p)) (2 ^ p) ≡ bit_or (followers s n p) (linked (lasts r k) (firsts s n) p)
again r s k n p e = goes_apart s n (ends r k (2 ^ p)) (2 ^ p) ∙ ap₂ bit_or e (goes_start s n (ends r k (2 ^ p)) ∙ ap (λ t. cond t (firsts s n) 0) (ends_pow r k p))

pub goes_pow : (r : Tree) (k p : ℕ) → goes r k false (2 ^ p) ≡ followers r k p
goes_pow nothing k p = refl
goes_pow never k p = refl
goes_pow (one l) k p = refl
goes_pow (seq r s) k p = ap₂ bit_or (goes_pow r k p) (again r s k (k + count r) p (goes_pow s (k + count r) p))
    ∙ sym (or_assoc (followers r k p) (followers s (k + count r) p) (linked (lasts r k) (firsts s (k + count r)) p))
goes_pow (alt r s) k p = ap₂ bit_or (goes_pow r k p) (goes_pow s (k + count r) p)
goes_pow (star r) k p = again r r k k p (goes_pow r k p)
goes_pow (plus r) k p = again r r k k p (goes_pow r k p)
goes_pow (maybe r) k p = goes_pow r k p

-- a set below 2 ^ 64 has no member from 64 on
below_bit : (n set i : ℕ) → bit_at (below n set) i ≡ cond (nat_lt i n) (bit_at set i) 0
below_bit zero set i = bit_at-zero i ∙ sym (by (nat_lt i 0) refl)
  where
    by : (t : Bool) → nat_lt i 0 ≡ t → cond t (bit_at set i) 0 ≡ 0
    by true e = let z : i < 0 = grind (arith, nat_tests) in absurd (omega arith)
    by false e = refl
below_bit (suc n) set i = bit_at_or (below n set) (cond (has set n) (2 ^ n) 0) i ∙ ap (λ b. max b (bit_at (cond (has set n) (2 ^ n) 0) i)) (below_bit n set i) ∙ by (nat_eq i n) refl
  where
    one_at : (t : Bool) → has set n ≡ t → bit_at (cond t (2 ^ n) 0) n ≡ bit_at set n
    one_at true e = bit_at-pow_same n ∙ sym (eqb-true (bit_at set n) 1 e)
    one_at false e =
        let q : bit_at set n ≢ 1 = λ x. let z = eq-eqb (bit_at set n) 1 x in cc in
        let l = bit_at-lt set n in
        let y = bit_at-zero n in
        omega arith

    none_at : (t : Bool) → i ≢ n → bit_at (cond t (2 ^ n) 0) i ≡ 0
    none_at true q = bit_at-pow_other n i q
    none_at false q = bit_at-zero i

    by : (t : Bool) → nat_eq i n ≡ t → max (cond (nat_lt i n) (bit_at set i) 0) (bit_at (cond (has set n) (2 ^ n) 0) i) ≡ cond (nat_lt i (suc n)) (bit_at set i) 0
    by true e =
        let same : i ≡ n = eqb-true i n e in
        let x : nat_lt i n ≡ false = grind (arith, nat_tests) in
        let y : nat_lt i (suc n) ≡ true = grind (arith, nat_tests) in
        let z : bit_at (cond (has set n) (2 ^ n) 0) i ≡ bit_at set i = subst (λ j. bit_at (cond (has set n) (2 ^ n) 0) j ≡ bit_at set j) (sym same) (one_at (has set n) refl) in
        rw (x, y, z) (omega arith)
    by false e =
        let q : i ≢ n = λ x. let z = eq-eqb i n x in cc in
        let y : nat_lt i (suc n) ≡ nat_lt i n = grind (arith, nat_tests) in
        let z = none_at (has set n) q in
        rw (y, z) (omega arith)

pub below_all : (set : ℕ) → set < 2 ^ 64 → below 64 set ≡ set
below_all set l = same_from_bits _ _ (λ i. below_bit 64 set i ∙ by i (nat_lt i 64) refl)
  where
    by : (i : ℕ) (t : Bool) → nat_lt i 64 ≡ t → cond t (bit_at set i) 0 ≡ bit_at set i
    by i true e = refl
    by i false e = let le : 64 ≤ i = grind (arith, nat_tests) in sym (bit_at_above set 64 i l le)

pub unite_same : (f g : ℕ → ℕ) (n set : ℕ) → ((p : ℕ) → p < n → f p ≡ g p) → unite f n set ≡ unite g n set
unfolding unite
unite_same f g zero set h = refl
unite_same f g (suc n) set h = ap₂ bit_or (unite_same f g n set (λ p l. h p (omega arith))) (ap (λ x. cond (has set n) x 0) (h n (omega arith)))

-- the tables tell all that may follow a set
pub goes_tabled : (r : Tree) (k : ℕ) (e : Bool) (set : ℕ) (table : ℕ → ℕ) → set < 2 ^ 64 → ((p : ℕ) → p < 64 → table p ≡ followers r k p) →
    bit_or (cond e (firsts r k) 0) (unite table 64 set) ≡ goes r k e set
goes_tabled r k e set table l h =
    let u : unite table 64 set ≡ unite (λ p. goes r k false (2 ^ p)) 64 set = unite_same table (λ p. goes r k false (2 ^ p)) 64 set (λ p m. h p m ∙ sym (goes_pow r k p)) in
    let b : goes r k false set ≡ unite (λ p. goes r k false (2 ^ p)) 64 set = ap (goes r k false) (sym (below_all set l)) ∙ goes_united r k 64 set in
    ap₂ bit_or (sym (goes_start r k e)) (u ∙ sym b) ∙ or_comm (goes r k e 0) (goes r k false set) ∙ sym (goes_apart r k e set)

-- the literals that match a letter
matching_within : (r : Tree) (k : ℕ) (c : Letter) (p : ℕ) → has (matching r k c) p ≡ true → (k ≤ p) × (p < k + count r)
matching_within r k c p e = picked_within (λ l. fits l c) r k p e

abbrev Agrees : Tree → ℕ → Letter → ℕ → Type 0
Agrees r k c m = (p : ℕ) → k ≤ p → p < k + count r → has m p ≡ has (matching r k c) p

not_here : (r : Tree) (k : ℕ) (c : Letter) (p : ℕ) → ((k ≤ p) × (p < k + count r) → ⊥) → has (matching r k c) p ≡ false
not_here r k c p f = by (has (matching r k c) p) refl
  where
    by : (t : Bool) → has (matching r k c) p ≡ t → has (matching r k c) p ≡ false
    by true e = absurd (f (matching_within r k c p e))
    by false e = e

agree_left : (r s : Tree) (k : ℕ) (c : Letter) (m : ℕ) → ((p : ℕ) → k ≤ p → p < k + (count r + count s) → has m p ≡ has (bit_or (matching r k c) (matching s (k + count r) c)) p) → Agrees r k c m
agree_left r s k c m h p l u = h p l (omega arith) ∙ has_or (matching r k c) (matching s (k + count r) c) p
    ∙ ap (λ t. has (matching r k c) p || t) (not_here s (k + count r) c p (λ x. omega (arith, x.0))) ∙ or_false (has (matching r k c) p)

agree_right : (r s : Tree) (k : ℕ) (c : Letter) (m : ℕ) → ((p : ℕ) → k ≤ p → p < k + (count r + count s) → has m p ≡ has (bit_or (matching r k c) (matching s (k + count r) c)) p) →
    Agrees s (k + count r) c m
agree_right r s k c m h p l u = h p (omega arith) (omega arith) ∙ has_or (matching r k c) (matching s (k + count r) c) p
    ∙ ap (λ t. t || has (matching s (k + count r) c) p) (not_here r k c p (λ x. omega (arith, x.1)))

masks_by : (r : Tree) (k : ℕ) (c : Letter) (m : ℕ) → Agrees r k c m → Masks r k c m
masks_by nothing k c m h = tt
masks_by never k c m h = tt
masks_by (one l) k c m h = h k (omega arith) (omega arith) ∙ by (fits l c)
  where
    by : (t : Bool) → has (cond t (2 ^ k) 0) k ≡ t
    by true = has_pow k
    by false = has-zero k
masks_by (seq r s) k c m h = (masks_by r k c m (agree_left r s k c m h), masks_by s (k + count r) c m (agree_right r s k c m h))
masks_by (alt r s) k c m h = (masks_by r k c m (agree_left r s k c m h), masks_by s (k + count r) c m (agree_right r s k c m h))
masks_by (star r) k c m h = masks_by r k c m h
masks_by (plus r) k c m h = masks_by r k c m h
masks_by (maybe r) k c m h = masks_by r k c m h

-- a step: what may follow, where it matches the letter
pub next_masked : (rules : List PlainRule) (set : ℕ) (c : Letter) → next_of rules set c ≡ bit_and (goes (bad_of rules) 1 (has set 0) set) (matching (bad_of rules) 1 c)
next_masked rules set c = reads_masked (bad_of rules) 1 (has set 0) set c (matching (bad_of rules) 1 c) (masks_by (bad_of rules) 1 c (matching (bad_of rules) 1 c) (λ p l u. refl))
