-- Two lists, member by member.
use Rattle.std.proofs.Common.{◌≡◌, ℕ, zero, suc, ◌+◌, ◌<◌, ◌≤◌, List, [], ◌∷◌, Some, length, drop, map, get_or, sym, ap, subst, ◌∙◌, arith, add-one, drop-cons, length-append}
use Rattle.std.specs.Prelude.{slice_get}
use Rattle.std.proofs.Math.ListN.{drop_of_length-le}
use Rattle.cw_rights.specs.Policies.{PlainPolicy}
use Rattle.cw_syntax.specs.declared.marks.SeamMark.{SeamMark as MarkHeld}
use Rattle.cw_syntax.specs.Marks.{SeamMark, mark_of}
use Rattle.cw_emit.specs.Woven.{placed}
use Rattle.cw_woven.specs.declared.parts.Insertion.{Insertion as Held}
use Rattle.cw_woven.specs.Held.{insertion_of}
use Rattle.cw_woven.specs.Parts.{Insertion, places_from, without}
use Rattle.cw_woven.specs.Reading.{IsFirstDifference}

One : Type 0
One = ℕ × List ℕ

later : (a b : One) (xs ys : List One) (n : ℕ) → a ≡ b → ((k : ℕ) → k < n → slice_get xs k ≡ slice_get ys k) → (k : ℕ) → k < suc n → slice_get (a ∷ xs) k ≡ slice_get (b ∷ ys) k
unfolding One
later a b xs ys n e h zero lt = ap Some e
later a b xs ys n e h (suc k) lt = h k (omega (arith, lt))

pub differs_later : (a b : ℕ × List ℕ) (xs ys : List (ℕ × List ℕ)) (n : ℕ) → a ≡ b → IsFirstDifference xs ys n → IsFirstDifference (a ∷ xs) (b ∷ ys) (suc n)
unfolding One
differs_later a b xs ys n e d = (d.0, later a b xs ys n e d.1)

pub differs_now : (a b : ℕ × List ℕ) (xs ys : List (ℕ × List ℕ)) → (a ≡ b → ⊥) → IsFirstDifference (a ∷ xs) (b ∷ ys) 0
differs_now a b xs ys ne = (λ e. ne (let f : a ≡ b = cc in f), λ k lt. absurd (omega (arith, lt)))

pub only_these : (a : ℕ × List ℕ) (xs : List (ℕ × List ℕ)) → IsFirstDifference (a ∷ xs) [] 0
only_these a xs = (λ e. absurd cc, λ k lt. absurd (omega (arith, lt)))

pub only_those : (b : ℕ × List ℕ) (ys : List (ℕ × List ℕ)) → IsFirstDifference [] (b ∷ ys) 0
only_those b ys = (λ e. absurd cc, λ k lt. absurd (omega (arith, lt)))

-- ---- a text's parts and a source's marks, from a place on

pub insertion_next : (ps : List Held) (i : ℕ) (d : Held) → i < length ps → map insertion_of (drop i ps) ≡ insertion_of (get_or ps i d) ∷ map insertion_of (drop (i + 1) ps)
insertion_next ps i d lt = let e : drop i ps ≡ get_or ps i d ∷ drop (i + 1) ps = rw add-one (drop-cons ps i d lt) in ap (map insertion_of) e

pub mark_next : (ms : List MarkHeld) (i : ℕ) (d : MarkHeld) → i < length ms → map mark_of (drop i ms) ≡ mark_of (get_or ms i d) ∷ map mark_of (drop (i + 1) ms)
mark_next ms i d lt = let e : drop i ms ≡ get_or ms i d ∷ drop (i + 1) ms = rw add-one (drop-cons ms i d lt) in ap (map mark_of) e

pub no_insertion : (ps : List Held) (i : ℕ) → length ps ≤ i → map insertion_of (drop i ps) ≡ []
no_insertion ps i le = ap (map insertion_of) (drop_of_length-le ps le)

pub no_mark : (ms : List MarkHeld) (i : ℕ) → length ms ≤ i → map mark_of (drop i ms) ≡ []
no_mark ms i le = ap (map mark_of) (drop_of_length-le ms le)

pub at_once : (A B : List (ℕ × List ℕ)) (P : ℕ → Type 0) (n : ℕ) → ((k : ℕ) → IsFirstDifference A B k → P (n + k)) → IsFirstDifference A B 0 → P n
at_once A B P n h d = let e : n + 0 ≡ n = omega arith in subst P e (h 0 d)

module _ (policy : PlainPolicy) (source : List ℕ) (at : ℕ) where
  pub same_step : (ps qs : List Insertion) (p : Insertion) (ms ns : List SeamMark) (m : SeamMark) → ps ≡ p ∷ qs → ms ≡ m ∷ ns → (at + length p.gap, p.inner) ≡ placed policy source m
      → places_from (at + length p.gap) qs ≡ map (placed policy source) ns → places_from at ps ≡ map (placed policy source) ms
  same_step ps qs p ms ns m e f g h = rw (e, f) (cons_same g h)
    where
      cons_same : {a b : ℕ × List ℕ} {xs ys : List (ℕ × List ℕ)} → a ≡ b → xs ≡ ys → a ∷ xs ≡ b ∷ ys
      cons_same g h = λ i. g i ∷ h i

  pub differs_step : (ps qs : List Insertion) (p : Insertion) (ms ns : List SeamMark) (m : SeamMark) (k : ℕ) → ps ≡ p ∷ qs → ms ≡ m ∷ ns → (at + length p.gap, p.inner) ≡ placed policy source m
      → IsFirstDifference (places_from (at + length p.gap) qs) (map (placed policy source) ns) k → IsFirstDifference (places_from at ps) (map (placed policy source) ms) (suc k)
  differs_step ps qs p ms ns m k e f g d =
      subst (λ (z : List Insertion). IsFirstDifference (places_from at z) (map (placed policy source) ms) (suc k)) (sym e)
      (subst (λ (z : List SeamMark). IsFirstDifference (places_from at (p ∷ qs)) (map (placed policy source) z) (suc k)) (sym f)
      (differs_later (at + length p.gap, p.inner) (placed policy source m) (places_from (at + length p.gap) qs) (map (placed policy source) ns) k g d))

  pub differs_here : (ps qs : List Insertion) (p : Insertion) (ms ns : List SeamMark) (m : SeamMark) → ps ≡ p ∷ qs → ms ≡ m ∷ ns → ((at + length p.gap, p.inner) ≡ placed policy source m → ⊥)
      → IsFirstDifference (places_from at ps) (map (placed policy source) ms) 0
  differs_here ps qs p ms ns m e f ne =
      subst (λ (z : List Insertion). IsFirstDifference (places_from at z) (map (placed policy source) ms) 0) (sym e)
      (subst (λ (z : List SeamMark). IsFirstDifference (places_from at (p ∷ qs)) (map (placed policy source) z) 0) (sym f)
      (differs_now (at + length p.gap, p.inner) (placed policy source m) (places_from (at + length p.gap) qs) (map (placed policy source) ns) ne))

  pub insertion_alone : (ps qs : List Insertion) (p : Insertion) (ms : List SeamMark) → ps ≡ p ∷ qs → ms ≡ [] → IsFirstDifference (places_from at ps) (map (placed policy source) ms) 0
  insertion_alone ps qs p ms e f =
      subst (λ (z : List Insertion). IsFirstDifference (places_from at z) (map (placed policy source) ms) 0) (sym e)
      (subst (λ (z : List SeamMark). IsFirstDifference (places_from at (p ∷ qs)) (map (placed policy source) z) 0) (sym f)
      (only_these (at + length p.gap, p.inner) (places_from (at + length p.gap) qs)))

  pub mark_alone : (ps : List Insertion) (ms ns : List SeamMark) (m : SeamMark) → ps ≡ [] → ms ≡ m ∷ ns → IsFirstDifference (places_from at ps) (map (placed policy source) ms) 0
  mark_alone ps ms ns m e f =
      subst (λ (z : List Insertion). IsFirstDifference (places_from at z) (map (placed policy source) ms) 0) (sym e)
      (subst (λ (z : List SeamMark). IsFirstDifference [] (map (placed policy source) z) 0) (sym f)
      (only_those (placed policy source m) (map (placed policy source) ns)))

pub bytes_step : (at whole : ℕ) (ps qs : List Insertion) (p : Insertion) (left : List ℕ) → ps ≡ p ∷ qs → at + length (without ps left) ≡ whole → at + length p.gap + length (without qs left) ≡ whole
bytes_step at whole ps qs p left e h =
    let f : length (without ps left) ≡ length p.gap + length (without qs left) = ap (λ (z : List Insertion). length (without z left)) e ∙ length-append p.gap (without qs left) in
    omega (arith, h, f)
