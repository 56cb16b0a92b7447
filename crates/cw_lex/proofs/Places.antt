-- Where a needle first begins in a source.
use Rattle.std.proofs.Common.{◌≡◌, ℕ, ◌+◌, ◌<◌, ◌≤◌, true, false, List, Option, Some, None, length, take, drop, ap, ◌∙◌, arith, length-drop, length-append, nat_eq}
use Rattle.std.specs.Prelude.{IfSome, IfNone}
use Rattle.std.specs.List.{starts_with}
use Rattle.std.proofs.Math.Seq.{take-append_seam}
use Rattle.std.proofs.lemmas.Bool.{false_from_ne_true}
use Rattle.memchr.specs.Find.{OccursAt, FindsNeedle}
use Rattle.memchr.proofs.lemmas.MatchLemmas.{OccursAt-split, OccursAt-from_part}
use Rattle.cw_lemmas.proofs.Texts.{starts_front, starts_is}

-- a needle of some bytes begins within the source
pub begins_within : (source needle : List ℕ) (at : ℕ) → 0 < length needle → starts_with nat_eq (drop at source) needle ≡ true → at + length needle ≤ length source
begins_within source needle at some e =
    let is = starts_is (drop at source) needle e in
    let sum = length-append needle (drop (length needle) (drop at source)) in
    omega (arith, some, ap length is, sum, length-drop at source)

occurs : (source needle : List ℕ) (at : ℕ) → 0 < length needle → starts_with nat_eq (drop at source) needle ≡ true → OccursAt source needle at
occurs source needle at some e =
    OccursAt-from_part source needle at (begins_within source needle at some e) (ap (take (length needle)) (starts_is (drop at source) needle e) ∙ take-append_seam needle _)

pub place_found : (source needle : List ℕ) (answer : Option ℕ) → FindsNeedle source needle 0 answer → IfSome answer (λ at. starts_with nat_eq (drop at source) needle ≡ true)
place_found source needle None nowhere = tt
place_found source needle (Some at) g = rw (OccursAt-split source needle at g.1) (starts_front needle _)

pub place_least : (source needle : List ℕ) (answer : Option ℕ) → 0 < length needle → FindsNeedle source needle 0 answer
    → IfSome answer (λ at. (k : ℕ) → k < at → starts_with nat_eq (drop k source) needle ≡ false)
place_least source needle None some nowhere = tt
place_least source needle (Some at) some g = λ k lt. false_from_ne_true _ (λ h. g.0.before k (omega arith) lt (occurs source needle k some h))

pub place_none : (source needle : List ℕ) (answer : Option ℕ) → 0 < length needle → FindsNeedle source needle 0 answer → IfNone answer ((k : ℕ) → starts_with nat_eq (drop k source) needle ≡ false)
place_none source needle None some nowhere = λ k. false_from_ne_true _ (λ h. nowhere k (omega arith) (let p = begins_within source needle k some h in omega (arith, p)) (occurs source needle k some h))
place_none source needle (Some at) some g = tt
