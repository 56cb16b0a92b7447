-- A value by its name.
use Rattle.std.proofs.Common.{◌≡◌, ℕ, ◌+◌, ◌<◌, ◌≤◌, ℤ, List, ◌∷◌, Vec, Bool, true, false, cond, Option, Some, None, map, drop, length, get_or, ap, sym, ◌∙◌, find, option_map, Global}
use Rattle.std.specs.Str.{bytes_eq}
use Rattle.std.proofs.lemmas.List.{at_drop_more, at_drop_all}

abbrev pub plain_pair : Vec ℕ Global × ℤ → List ℕ × ℤ
plain_pair g = (g.0.items, g.1)

abbrev pub is_named : List ℕ → List ℕ × ℤ → Bool
is_named name g = bytes_eq name g.0

abbrev pub its_value : List ℕ × ℤ → ℤ
its_value g = g.1

abbrev pub found_in : List ℕ → List (Vec ℕ Global × ℤ) → Option ℤ
found_in name xs = option_map its_value (find (is_named name) (map plain_pair xs))

abbrev by_test : List ℕ → List (Vec ℕ Global × ℤ) → Vec ℕ Global × ℤ → Bool → Option ℤ
by_test name rest x b = option_map its_value (cond b (Some (plain_pair x)) (find (is_named name) (map plain_pair rest)))

module _ (name : List ℕ) (xs : List (Vec ℕ Global × ℤ)) (i : ℕ) where
  split : (x : Vec ℕ Global × ℤ) → i < length xs → x ≡ get_or xs i x → found_in name (drop i xs) ≡ by_test name (drop (i + 1) xs) x (is_named name (plain_pair x))
  split x within is = at_drop_more (found_in name) xs i x within ∙ ap (λ y. found_in name (y ∷ drop (i + 1) xs)) (sym is)

  pub found_one : (x : Vec ℕ Global × ℤ) → i < length xs → x ≡ get_or xs i x → bytes_eq name x.0.items ≡ true → found_in name (drop i xs) ≡ found_in name xs → Some x.1 ≡ found_in name xs
  found_one x within is same before = sym (ap (by_test name (drop (i + 1) xs) x) same) ∙ sym (split x within is) ∙ before

  pub found_more : (x : Vec ℕ Global × ℤ) → i < length xs → x ≡ get_or xs i x → bytes_eq name x.0.items ≡ false → found_in name (drop i xs) ≡ found_in name xs
      → found_in name (drop (i + 1) xs) ≡ found_in name xs
  found_more x within is other before = sym (ap (by_test name (drop (i + 1) xs) x) other) ∙ sym (split x within is) ∙ before

  pub found_none : length xs ≤ i → found_in name (drop i xs) ≡ found_in name xs → None ≡ found_in name xs
  found_none le before = sym (at_drop_all (found_in name) xs i le) ∙ before
