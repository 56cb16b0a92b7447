-- What two equal lists begin with and go on with, and fronts of a list.
use Rattle.std.proofs.Common.{◌≡◌, ℕ, zero, suc, ◌+◌, ◌<◌, List, [], ◌∷◌, ◌++◌, length, take, get_or, Some, refl, sym, ap, ap₂, ◌∙◌}
use Rattle.std.specs.Prelude.{slice_get}
use Rattle.std.proofs.lemmas.List.{take_more}
use Rattle.std.proofs.lemmas.Option.{none-some}

abbrev first_or : {A : Type 0} → A → List A → A
first_or z [] = z
first_or z (w ∷ ws) = w

abbrev rest_of : {A : Type 0} → List A → List A
rest_of [] = []
rest_of (w ∷ ws) = ws

pub cons_head : {A : Type 0} (x y : A) (xs ys : List A) → x ∷ xs ≡ y ∷ ys → x ≡ y
cons_head x y xs ys e = ap (first_or x) e

pub cons_tail : {A : Type 0} (x y : A) (xs ys : List A) → x ∷ xs ≡ y ∷ ys → xs ≡ ys
cons_tail x y xs ys e = ap rest_of e

-- two that are equal, each with a list, and one item more
pub joined : {E A : Type 0} (one other : E) (x y : A) (xs ys : List A) → x ≡ y → (one ≡ other) × (xs ≡ ys) → (one ≡ other) × (x ∷ xs ≡ y ∷ ys)
joined {A = A} one other x y xs ys e h = (h.0, ap₂ (λ (z : A) (l : List A). z ∷ l) e h.1)

-- a front with one item more
pub front_more : {A : Type 0} (xs : List A) (i : ℕ) (x : A) → i < length xs → x ≡ get_or xs i x → take (i + 1) xs ≡ take i xs ++ x ∷ []
front_more xs i x lt is = take_more xs i x lt ∙ ap (λ y. take i xs ++ y ∷ []) (sym is)

-- a front that is empty, before an item, has no length
pub not_read : {A : Type 0} (i : ℕ) (xs : List A) (x : A) → [] ≡ take i xs → slice_get xs i ≡ Some x → i ≡ 0
not_read zero xs x e h = refl
not_read (suc i) [] x e h = absurd (none-some x h)
not_read (suc i) (y ∷ xs) x e h = cc
