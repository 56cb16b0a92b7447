-- The literals that a test of literals picks.
use Rattle.std.proofs.Common.{◌≡◌, ◌⊎◌, inl, inr, ℕ, ◌+◌, ◌<◌, ◌≤◌, ◌^◌, Bool, true, false, ◌&&◌, Option, Some, None, cond, min, max, nat_eq, refl, sym, ap, ap₂, ◌∙◌, arith, eq-eqb, List}
use Rattle.std.specs.Prelude.{unwrap_or}
use Rattle.std.specs.Int.{bit_at}
use Rattle.std.specs.Int.RustNames.{bit_or, bit_and}
use Rattle.std.proofs.lemmas.Nat.Bits.{bit_at_or, bit_at_and, bit_at-lt, same_from_bits, bit_at-zero}
use Rattle.std.proofs.lemmas.Bool.Decides.{nat_tests}
use Rattle.cw_rights.specs.declared.capabilities.Caps.{Caps}
use Rattle.cw_rights.specs.declared.words.Letter.{Letter}
use Rattle.cw_rights.specs.Words.{fits, label_fits, tests_hold}
use Rattle.cw_rights.specs.Trees.{Literal, Tree, nothing, never, one, seq, alt, star, plus, maybe, count}
use Rattle.cw_rights.specs.Policies.{PlainRule}
use Rattle.cw_dfa.specs.Sets.{has}
use Rattle.cw_dfa.specs.Positions.{bad_of}
use Rattle.cw_dfa.specs.Tables.{picked, matching, named, tested}
use Rattle.cw_dfa.proofs.Bools.{has_none, has_pow_only, has_or_cases}

-- a literal matches the letter of a label that it names where its tests hold
pub own_label : (l : Literal) (caps : Caps) → fits l (record { label = unwrap_or l.label 0; caps = caps }) ≡ tests_hold caps l.tests
own_label l caps = ap (λ b. b && tests_hold caps l.tests) (by l.label)
  where
    by : (o : Option ℕ) → label_fits o (unwrap_or o 0) ≡ true
    by None = refl
    by (Some n) = eq-eqb n n refl

module _ (f : Literal → Bool) where
  -- they are among the expression's
  pub picked_within : (r : Tree) (k p : ℕ) → has (picked f r k) p ≡ true → (k ≤ p) × (p < k + count r)
  picked_within nothing k p e = absurd (has_none p e)
  picked_within never k p e = absurd (has_none p e)
  picked_within (one l) k p e = by (f l) e
    where
      by : (t : Bool) → has (cond t (2 ^ k) 0) p ≡ true → (k ≤ p) × (p < k + 1)
      by true h = let z = has_pow_only k p h in (omega arith, omega arith)
      by false h = absurd (has_none p h)
  picked_within (seq r s) k p e = either (has_or_cases (picked f r k) (picked f s (k + count r)) p e) (picked_within r k p) (picked_within s (k + count r) p)
    where
      either : (has (picked f r k) p ≡ true) ⊎ (has (picked f s (k + count r)) p ≡ true) → (has (picked f r k) p ≡ true → (k ≤ p) × (p < k + count r)) →
          (has (picked f s (k + count r)) p ≡ true → (k + count r ≤ p) × (p < (k + count r) + count s)) → (k ≤ p) × (p < k + (count r + count s))
      either (inl h) left right = let z = left h in (omega arith, omega arith)
      either (inr h) left right = let z = right h in (omega arith, omega arith)
  picked_within (alt r s) k p e = either (has_or_cases (picked f r k) (picked f s (k + count r)) p e) (picked_within r k p) (picked_within s (k + count r) p)
    where
      either : (has (picked f r k) p ≡ true) ⊎ (has (picked f s (k + count r)) p ≡ true) → (has (picked f r k) p ≡ true → (k ≤ p) × (p < k + count r)) →
          (has (picked f s (k + count r)) p ≡ true → (k + count r ≤ p) × (p < (k + count r) + count s)) → (k ≤ p) × (p < k + (count r + count s))
      either (inl h) left right = let z = left h in (omega arith, omega arith)
      either (inr h) left right = let z = right h in (omega arith, omega arith)
  picked_within (star r) k p e = picked_within r k p e
  picked_within (plus r) k p e = picked_within r k p e
  picked_within (maybe r) k p e = picked_within r k p e

-- sets of two parts, whose parts are apart
apart_at : (a b i : ℕ) → (has a i ≡ true → has b i ≡ true → ⊥) → min (bit_at a i) (bit_at b i) ≡ 0
apart_at a b i h = by (nat_eq (bit_at a i) 1) (nat_eq (bit_at b i) 1) refl refl
  where
    by : (s t : Bool) → has a i ≡ s → has b i ≡ t → min (bit_at a i) (bit_at b i) ≡ 0
    by true true e f = absurd (h e f)
    by false t e f = let l = bit_at-lt a i in grind (arith, nat_tests)
    by true false e f = let l = bit_at-lt b i in grind (arith, nat_tests)

bits_apart : (a b d e : ℕ) → a < 2 → b < 2 → d < 2 → e < 2 → min a e ≡ 0 → min b d ≡ 0 → max (min a d) (min b e) ≡ min (max a b) (max d e)
bits_apart a b d e k l m n x y = omega arith

both_parts : (a b d e : ℕ) → ((i : ℕ) → has a i ≡ true → has e i ≡ true → ⊥) → ((i : ℕ) → has b i ≡ true → has d i ≡ true → ⊥)
    → bit_or (bit_and a d) (bit_and b e) ≡ bit_and (bit_or a b) (bit_or d e)
both_parts a b d e f g = same_from_bits _ _ (λ i.
    let x = bits_apart (bit_at a i) (bit_at b i) (bit_at d i) (bit_at e i) (bit_at-lt a i) (bit_at-lt b i) (bit_at-lt d i) (bit_at-lt e i)
    (apart_at a e i (f i)) (apart_at b d i (g i)) in
    bit_at_or (bit_and a d) (bit_and b e) i ∙ ap₂ max (bit_at_and a d i) (bit_at_and b e i) ∙ x
    ∙ sym (bit_at_and (bit_or a b) (bit_or d e) i ∙ ap₂ min (bit_at_or a b i) (bit_at_or d e i)))

both_one : (a b : Bool) (n : ℕ) → cond (a && b) n 0 ≡ bit_and (cond a n 0) (cond b n 0)
both_one a b n = same_from_bits _ _ (λ i. by a b i ∙ sym (bit_at_and (cond a n 0) (cond b n 0) i))
  where
    by : (a b : Bool) (i : ℕ) → bit_at (cond (a && b) n 0) i ≡ min (bit_at (cond a n 0) i) (bit_at (cond b n 0) i)
    by true true i = omega arith
    by true false i = let z = bit_at-zero i in omega arith
    by false b i = let z = bit_at-zero i in omega arith

-- what two tests pick together is what both pick
module _ (f g : Literal → Bool) where
  pub picked_both : (r : Tree) (k : ℕ) → picked (λ l. f l && g l) r k ≡ bit_and (picked f r k) (picked g r k)
  picked_both nothing k = both_one false false 0
  picked_both never k = both_one false false 0
  picked_both (one l) k = both_one (f l) (g l) (2 ^ k)
  picked_both (seq r s) k = ap₂ bit_or (picked_both r k) (picked_both s (k + count r)) ∙ parts r s k
    where
      parts : (r s : Tree) (k : ℕ) → bit_or (bit_and (picked f r k) (picked g r k)) (bit_and (picked f s (k + count r)) (picked g s (k + count r)))
          ≡ bit_and (bit_or (picked f r k) (picked f s (k + count r))) (bit_or (picked g r k) (picked g s (k + count r)))
      parts r s k = both_parts (picked f r k) (picked f s (k + count r)) (picked g r k) (picked g s (k + count r))
          (λ i x y. let u = picked_within f r k i x in let v = picked_within g s (k + count r) i y in absurd (omega (arith, u.1, v.0)))
          (λ i x y. let u = picked_within f s (k + count r) i x in let v = picked_within g r k i y in absurd (omega (arith, u.0, v.1)))
  picked_both (alt r s) k = ap₂ bit_or (picked_both r k) (picked_both s (k + count r))
      ∙ both_parts (picked f r k) (picked f s (k + count r)) (picked g r k) (picked g s (k + count r))
      (λ i x y. let u = picked_within f r k i x in let v = picked_within g s (k + count r) i y in absurd (omega (arith, u.1, v.0)))
      (λ i x y. let u = picked_within f s (k + count r) i x in let v = picked_within g r k i y in absurd (omega (arith, u.0, v.1)))
  picked_both (star r) k = picked_both r k
  picked_both (plus r) k = picked_both r k
  picked_both (maybe r) k = picked_both r k

pub matching_both : (rules : List PlainRule) (c : Letter) → matching (bad_of rules) 1 c ≡ bit_and (named rules c.label) (tested rules c.caps)
matching_both rules c = picked_both (λ l. label_fits l.label c.label) (λ l. tests_hold c.caps l.tests) (bad_of rules) 1
