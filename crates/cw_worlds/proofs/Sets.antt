-- Lists of processes: one is replaced, and one comes last.
use Rattle.std.proofs.Common.{◌≡◌, ◌⊎◌, ℕ, zero, suc, List, [], ◌∷◌, ◌++◌, set, Some, sym, inl, inr}
use Rattle.std.specs.Prelude.{slice_get}
use Rattle.std.proofs.lemmas.Option.{none-some, same_Some}

pub among_set : {A : Type 0} (w : List A) (i j : ℕ) (x s : A) → slice_get (set w i x) j ≡ Some s → (s ≡ x) ⊎ (slice_get w j ≡ Some s)
among_set [] i j x s e = absurd (none-some s e)
among_set (y ∷ w) zero zero x s e = inl (sym (same_Some x s e))
among_set (y ∷ w) zero (suc j) x s e = inr e
among_set (y ∷ w) (suc i) zero x s e = inr e
among_set (y ∷ w) (suc i) (suc j) x s e = among_set w i j x s e

pub among_more : {A : Type 0} (w : List A) (j : ℕ) (x s : A) → slice_get (w ++ x ∷ []) j ≡ Some s → (s ≡ x) ⊎ (slice_get w j ≡ Some s)
among_more [] zero x s e = inl (sym (same_Some x s e))
among_more [] (suc j) x s e = absurd (none-some s e)
among_more (y ∷ w) zero x s e = inr e
among_more (y ∷ w) (suc j) x s e = among_more w j x s e
