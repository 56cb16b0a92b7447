-- A name that is declared once.
use Rattle.std.proofs.Common.{◌≡◌, Bool, true, false, not, ◌&&◌, List, [], ◌∷◌, refl, ap}
use Rattle.std.specs.List.{filter, list_any}
use Rattle.cw_scope.specs.Descriptors.{Entry, is_empty, is_one}

empty_more : (p : Entry → Bool) (x : Entry) (xs : List Entry) (b : Bool) → p x ≡ b → is_empty (filter p xs) ≡ not (list_any p xs) → is_empty (filter p (x ∷ xs)) ≡ not (list_any p (x ∷ xs))
empty_more p x xs true e r = rw e refl
empty_more p x xs false e r = rw e r

empty_if : (p : Entry → Bool) (xs : List Entry) → is_empty (filter p xs) ≡ not (list_any p xs)
empty_if p [] = refl
empty_if p (x ∷ xs) = empty_more p x xs (p x) refl (empty_if p xs)

pub one_of : (p : Entry → Bool) (e : Entry) (xs : List Entry) → is_one (e ∷ filter p xs) ≡ (e.fits && not (list_any p xs))
one_of p e xs = ap (λ b. e.fits && b) (empty_if p xs)
