-- The first element that passes a test, in a loop.
use Rattle.std.proofs.Common.{◌≡◌, ℕ, ◌+◌, ◌<◌, ◌≤◌, List, ◌∷◌, Bool, true, false, cond, Option, Some, None, map, drop, length, get_or, ap, sym, ◌∙◌, find}
use Rattle.std.proofs.lemmas.List.{at_drop_more, at_drop_all}

module _ {X Y : Type 0} (test : Y → Bool) (f : X → Y) (xs : List X) (i : ℕ) where
  abbrev by_test : X → Bool → Option Y
  by_test x b = cond b (Some (f x)) (find test (map f (drop (i + 1) xs)))

  opened : (x : X) → i < length xs → x ≡ get_or xs i x → find test (map f (drop i xs)) ≡ by_test x (test (f x))
  opened x within is = at_drop_more (λ l. find test (map f l)) xs i x within ∙ ap (λ x'. find test (map f (x' ∷ drop (i + 1) xs))) (sym is)

  pub found : (x : X) → i < length xs → x ≡ get_or xs i x → test (f x) ≡ true → find test (map f (drop i xs)) ≡ find test (map f xs) → Some (f x) ≡ find test (map f xs)
  found x within is passes before = sym (ap (by_test x) passes) ∙ sym (opened x within is) ∙ before

  pub passed : (x : X) → i < length xs → x ≡ get_or xs i x → test (f x) ≡ false → find test (map f (drop i xs)) ≡ find test (map f xs)
      → find test (map f (drop (i + 1) xs)) ≡ find test (map f xs)
  passed x within is fails before = sym (ap (by_test x) fails) ∙ sym (opened x within is) ∙ before

  pub none_found : length xs ≤ i → find test (map f (drop i xs)) ≡ find test (map f xs) → None ≡ find test (map f xs)
  none_found le before = sym (at_drop_all (λ l. find test (map f l)) xs i le) ∙ before
