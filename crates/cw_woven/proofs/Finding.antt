-- Where a needle first stands in a text.
use Rattle.std.proofs.Common.{◌≡◌, ℕ, zero, suc, ◌+◌, ◌-◌, ◌<◌, ◌≤◌, true, false, List, ◌∷◌, ◌++◌, Some, length, take, drop, refl, sym, ap, subst, ◌∙◌, arith, length-take, length-drop, length-append}
use Rattle.std.proofs.Common.{nat_eq, ◌⊎◌, inl, inr}
use Rattle.std.specs.List.{starts_with}
use Rattle.std.proofs.Math.Seq.{take-append_seam}
use Rattle.std.proofs.lemmas.Bool.{false_from_ne_true, cases_order}
use Rattle.std.proofs.lemmas.List.{take-append-drop, take_rest}
use Rattle.memchr.specs.Find.{OccursAt, FindsNeedle, Nowhere}
use Rattle.memchr.proofs.lemmas.MatchLemmas.{OccursAt-split, OccursAt-from_part}
use Rattle.cw_emit.specs.Cut.{closing}
use Rattle.cw_syntax.specs.PlainMarks.{HasNone}
use Rattle.cw_woven.specs.Parts.{IsCutAt, NoneBefore}
use Rattle.cw_lemmas.proofs.Texts.{starts_is}

occurs : (text needle : List ℕ) (at : ℕ) → at ≤ length text → starts_with nat_eq (drop at text) needle ≡ true → OccursAt text needle at
occurs text needle at le e =
    let is : drop at text ≡ needle ++ drop (length needle) (drop at text) = starts_is (drop at text) needle e in
    let whole : length (drop at text) ≡ length (needle ++ drop (length needle) (drop at text)) = ap length is in
    let sum : length (needle ++ drop (length needle) (drop at text)) ≡ length needle + length (drop (length needle) (drop at text)) = length-append needle (drop (length needle) (drop at text)) in
    OccursAt-from_part text needle at (omega (arith, le, whole, sum, length-drop at text)) (ap (take (length needle)) is ∙ take-append_seam needle _)

empty_occurs : (text needle : List ℕ) (at : ℕ) → length text < at → starts_with nat_eq (drop at text) needle ≡ true → OccursAt text needle 0
empty_occurs text needle at lt e =
    let is : drop at text ≡ needle ++ drop (length needle) (drop at text) = starts_is (drop at text) needle e in
    let whole : length (drop at text) ≡ length (needle ++ drop (length needle) (drop at text)) = ap length is in
    let sum : length (needle ++ drop (length needle) (drop at text)) ≡ length needle + length (drop (length needle) (drop at text)) = length-append needle (drop (length needle) (drop at text)) in
    let none : length needle ≡ 0 = omega (arith, lt, whole, sum, length-drop at text) in
    record { fits = omega (arith, none); reads = λ j l. absurd (omega (arith, none, l)) }

pub none_at : (text needle : List ℕ) → Nowhere (OccursAt text needle) 0 (length text + 1) → HasNone needle text
none_at text needle nowhere at = false_from_ne_true _ (λ h. refuted h)
  where
    refuted : starts_with nat_eq (drop at text) needle ≡ true → ⊥
    refuted h = by_place (cases_order at (length text))
      where
        by_place : (at ≡ length text) ⊎ ((at < length text) ⊎ (length text < at)) → ⊥
        by_place (inl e) = nowhere at (omega arith) (omega (arith, e)) (occurs text needle at (omega (arith, e)) h)
        by_place (inr (inl lt)) = nowhere at (omega arith) (omega (arith, lt)) (occurs text needle at (omega (arith, lt)) h)
        by_place (inr (inr gt)) = nowhere 0 (omega arith) (omega arith) (empty_occurs text needle at gt h)

finds_at : (text needle : List ℕ) (k : ℕ) → FindsNeedle text needle 0 (Some k) → IsCutAt needle text (take k text) (drop (k + length needle) text)
finds_at text needle k g =
    record {
      cut = sym (take-append-drop k text) ∙ ap (λ (z : List ℕ). take k text ++ z) (OccursAt-split text needle k g.1);
      first = λ at lt. let fits = g.1.fits in false_from_ne_true _ (λ h. g.0.before at (omega arith) (omega (arith, lt, length-take k text)) (occurs text needle at (omega (arith, lt, length-take k text, fits)) h));
    }

pub finds_some : (text needle : List ℕ) (k : ℕ) → FindsNeedle text needle 0 (Some k) → IsCutAt needle text (take k text) (take (length text - (k + length needle)) (drop (k + length needle) text))
finds_some text needle k g = subst (λ (z : List ℕ). IsCutAt needle text (take k text) z) (sym (take_rest text (k + length needle))) (finds_at text needle k g)

-- ---- before a needle that begins otherwise

behind_lf : (text : List ℕ) (at count : ℕ) → NoneBefore closing text count → at < suc count → starts_with nat_eq (drop at (10 ∷ text)) closing ≡ false
behind_lf text zero count none lt = refl
behind_lf text (suc at) count none lt = none at (omega (arith, lt))

pub closes_behind_lf : (text front rest : List ℕ) → IsCutAt closing text front rest → IsCutAt closing (10 ∷ text) (10 ∷ front) rest
closes_behind_lf text front rest c = record { cut = ap (λ (z : List ℕ). 10 ∷ z) c.cut; first = λ at lt. behind_lf text at (length front) c.first lt }

pub none_behind_lf : (text : List ℕ) → HasNone closing text → HasNone closing (10 ∷ text)
none_behind_lf text none zero = refl
none_behind_lf text none (suc at) = none at
