-- What stands at an index of a list, and what a filter finds.
use Rattle.std.proofs.Common.{◌≡◌, ℕ, zero, suc, ◌+◌, ◌<◌, List, [], ◌∷◌, ◌++◌, Option, Some, filter_map, take, get_or, length, sym, ap, ◌∙◌, arith, append_assoc}
use Rattle.std.specs.Prelude.{slice_get}
use Rattle.std.specs.List.{Contains, cons_option}
use Rattle.std.proofs.lemmas.List.{take_more}
use Rattle.std.proofs.lemmas.List.Elements.{filter_map-append}
use Rattle.std.proofs.lemmas.Option.{none-some}
use Rattle.cw_lemmas.proofs.Lists.{get_contains, get_front, get_last, from_kept, to_kept}
use Rattle.cw_joins.specs.Seeing.{named}

-- the key that a hint names
pub named_in : {K : Type 0} (keys : List K) (hint : ℕ) (k : K) → named keys hint ≡ Some k → Contains keys k
named_in keys zero k e = absurd (none-some k e)
named_in keys (suc zero) k e = absurd (none-some k e)
named_in keys (suc (suc index)) k e = get_contains keys index k e

pub named_more : {K : Type 0} (keys more : List K) (hint : ℕ) (k : K) → named keys hint ≡ Some k → named (keys ++ more) hint ≡ Some k
named_more keys more zero k e = absurd (none-some k e)
named_more keys more (suc zero) k e = absurd (none-some k e)
named_more keys more (suc (suc index)) k e = get_front keys more index k e

pub named_last : {K : Type 0} (keys : List K) (k : K) → named (keys ++ k ∷ []) (length keys + 2) ≡ Some k
named_last keys k = let n : length keys + 2 ≡ suc (suc (length keys)) = omega arith in ap (named (keys ++ k ∷ [])) n ∙ get_last keys k

module _ {A B : Type 0} (f : A → Option B) where
  -- one item more of a filtered list
  pub filtered_next : (front : List B) (xs : List A) (x : A) (old new : List B) → old ≡ front ++ filter_map f xs → new ≡ old ++ cons_option (f x) [] → new ≡ front ++ filter_map f (xs ++ x ∷ [])
  filtered_next front xs x old new h e =
      e ∙ ap (λ l. l ++ cons_option (f x) []) h ∙ append_assoc front (filter_map f xs) (cons_option (f x) []) ∙ sym (ap (λ l. front ++ l) (filter_map-append f xs (x ∷ [])))

  pub filtered_more : (front : List B) (xs : List A) (i : ℕ) (d : A) (old new : List B) → i < length xs → old ≡ front ++ filter_map f (take i xs)
      → new ≡ old ++ cons_option (f (get_or xs i d)) [] → new ≡ front ++ filter_map f (take (i + 1) xs)
  filtered_more front xs i d old new lt h e = filtered_next front (take i xs) (get_or xs i d) old new h e ∙ sym (ap (λ l. front ++ filter_map f l) (take_more xs i d lt))

  -- four items more
  pub filtered_four : (front : List B) (a b c d : A) (k l m n : List B) → k ≡ front ++ cons_option (f a) [] → l ≡ k ++ cons_option (f b) [] → m ≡ l ++ cons_option (f c) []
      → n ≡ m ++ cons_option (f d) [] → n ≡ front ++ filter_map f (a ∷ b ∷ c ∷ d ∷ [])
  filtered_four front a b c d k l m n e g h i =
      filtered_next front (a ∷ b ∷ c ∷ []) d m n (filtered_next front (a ∷ b ∷ []) c l m (filtered_next front (a ∷ []) b k l e g) h) i

-- what a filter finds
pub filtered_from : {A B : Type 0} (f : A → Option B) (xs : List A) (y : B) → Contains (filter_map f xs) y → (x : A) × (f x ≡ Some y)
filtered_from f xs y c = let r = from_kept f xs y c in (r.0, r.2)

pub filtered_to : {A B : Type 0} (f : A → Option B) (xs : List A) (i : ℕ) (x : A) (y : B) → slice_get xs i ≡ Some x → f x ≡ Some y → Contains (filter_map f xs) y
filtered_to f xs i x y at e = to_kept f xs x y (get_contains xs i x at) e
