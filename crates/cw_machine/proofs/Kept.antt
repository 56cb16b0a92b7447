-- Lists that are known by those of a file's functions.
use Rattle.std.proofs.Common.{◌≡◌, ℕ, zero, suc, ◌<◌, ◌≤◌, List, [], ◌∷◌, map, length, get_or, Some, None, refl, ap, ◌∙◌, arith, slice_get}

module _ {X F A : Type 0} (g : X → A) (h : F → A) where
  pub at_known : (xs : List X) (fs : List F) (i : ℕ) (x : X) → map g xs ≡ map h fs → i < length xs → x ≡ get_or xs i x → (f : F) × (slice_get fs i ≡ Some f) × (g x ≡ h f)
  at_known [] fs i x same within is = absurd (omega arith)
  at_known (y ∷ ys) [] i x same within is = absurd (cc)
  at_known (y ∷ ys) (f ∷ fs) zero x same within is = let e : g y ≡ h f = cc in (f, refl, ap g is ∙ e)
  at_known (y ∷ ys) (f ∷ fs) (suc i) x same within is = let e : map g ys ≡ map h fs = cc in at_known ys fs i x e (omega arith) is

  pub past_known : (xs : List X) (fs : List F) (i : ℕ) → map g xs ≡ map h fs → length xs ≤ i → slice_get fs i ≡ None
  past_known xs [] i same past = refl
  past_known [] (f ∷ fs) i same past = absurd (cc)
  past_known (y ∷ ys) (f ∷ fs) zero same past = absurd (omega arith)
  past_known (y ∷ ys) (f ∷ fs) (suc i) same past = let e : map g ys ≡ map h fs = cc in past_known ys fs i e (omega arith)
