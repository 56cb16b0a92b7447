-- Lists that have the same elements.
use Rattle.std.proofs.Common.{◌≡◌, ⊎_elim, ℕ, ◌+◌, ◌<◌, ◌≤◌, List, [], ◌∷◌, ◌++◌, map, take, length, get_or, sym, ap, ◌∙◌, subst}
use Rattle.std.specs.List.{Contains}
use Rattle.std.specs.declared.cmp.Ordering.{Ordering}
use Rattle.std.proofs.lemmas.List.{take_more, take_all, map-append}
use Rattle.std.proofs.lemmas.List.Elements.{Contains-append_left, Contains-append_right, Contains-append_cases}
use Rattle.cw_fixpoint.specs.Closures.{Exactly}
use Rattle.cw_lazy_table.specs.SeamKeys.{AreOf, IsPut}

module _ {A : Type 0} where
  -- the first i, and one more
  pub put_next : {K : Type 0} (f : K → A) (xs : List K) (i : ℕ) (d : K) (old new : List A) → i < length xs → AreOf (map f (take i xs)) old → IsPut old (f (get_or xs i d)) new
      → AreOf (map f (take (i + 1) xs)) new
  put_next {K} f xs i d old new l are put y =
      let x = get_or xs i d in
      let front = map f (take i xs) in
      let all : map f (take (i + 1) xs) ≡ front ++ f x ∷ [] =
      ap (map f) (take_more xs i d l) ∙ map-append f (take i xs) (x ∷ []) in (
        λ c. subst (λ l. Contains l y) (sym all)
            (⊎_elim (λ d. Contains-append_left front (f x ∷ []) y ((are y).0 d)) (λ d. Contains-append_right front (f x ∷ []) y d) (Contains-append_cases old (f x ∷ []) y ((put y).0 c))),
        λ c. (put y).1
            (⊎_elim (λ d. Contains-append_left old (f x ∷ []) y ((are y).1 d)) (λ d. Contains-append_right old (f x ∷ []) y d)
            (Contains-append_cases front (f x ∷ []) y (subst (λ l. Contains l y) all c))),
      )

  pub put_all : {K : Type 0} (f : K → A) (xs : List K) (i : ℕ) (ys : List A) → length xs ≤ i → AreOf (map f (take i xs)) ys → AreOf (map f xs) ys
  put_all {K} f xs i ys l are = subst (λ (zs : List A). AreOf zs ys) (ap (map f) (take_all i xs l)) are

  -- what is listed of the one is listed of the other
  pub listed_of : (c : A → A → Ordering) (xs ys zs : List A) → AreOf xs ys → Exactly c (Contains ys) zs → Exactly c (Contains xs) zs
  listed_of c xs ys zs are e = (e.0, λ x. (λ i. (are x).0 ((e.1 x).0 i), λ i. (e.1 x).1 ((are x).1 i)))
