-- An element of a list, and what stands from it on.
use Rattle.std.proofs.Common.{◌≡◌, ◌<◌, ℕ, zero, suc, List, [], ◌∷◌, Some, None, drop, map, length, get_or, refl, sym, ap, arith, true, false}
use Rattle.std.specs.Prelude.{slice_get}
use Rattle.std.proofs.lemmas.Option.{none-some, same_Some}
use Rattle.cw_rights.specs.declared.capabilities.Primitive.{Primitive}
use Rattle.cw_model.specs.Boards.{onward}
use Rattle.cw_boards.specs.Changes.{is_free}

pub drop_none : {A : Type 0} (xs : List A) (n : ℕ) → slice_get xs n ≡ None → drop n xs ≡ []
drop_none [] zero e = refl
drop_none [] (suc n) e = refl
drop_none (x ∷ xs) zero e = absurd (none-some x (sym e))
drop_none (x ∷ xs) (suc n) e = drop_none xs n e

pub drop_some : {A : Type 0} (xs : List A) (n : ℕ) (a : A) → slice_get xs n ≡ Some a → drop n xs ≡ a ∷ drop (suc n) xs
drop_some [] n a e = absurd (none-some a e)
drop_some (x ∷ xs) zero a e = ap (λ y. y ∷ xs) (same_Some x a e)
drop_some (x ∷ xs) (suc n) a e = drop_some xs n a e

pub free_none : (all : List Primitive) (n : ℕ) → None ≡ slice_get all n → true ≡ is_free (onward n (drop n all))
free_none all n e = sym (ap (λ l. is_free (onward n l)) (drop_none all n (sym e)))

pub free_some : (all : List Primitive) (n : ℕ) (a : Primitive) → Some a ≡ slice_get all n → false ≡ is_free (onward n (drop n all))
free_some all n a e = sym (ap (λ l. is_free (onward n l)) (drop_some all n a (sym e)))

pub from_mapped : {A B : Type 0} (f : A → B) (xs : List A) (i : ℕ) (y : B) → slice_get (map f xs) i ≡ Some y → (x : A) × (i < length xs) × (x ≡ get_or xs i x) × (f x ≡ y)
from_mapped f [] i y e = absurd (none-some y e)
from_mapped f (x ∷ xs) zero y e = (x, omega arith, refl, same_Some (f x) y e)
from_mapped f (x ∷ xs) (suc i) y e = let h = from_mapped f xs i y e in (h.0, omega (arith, h.1), h.2, h.3)
