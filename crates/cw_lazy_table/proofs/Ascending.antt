-- Lists that are filtered item by item.
use Rattle.std.proofs.Common.{◌≡◌, ◌+◌, ◌<◌, ◌≤◌, List, [], ◌∷◌, ◌++◌, Option, filter_map, take, length, get_or, append_assoc}
use Rattle.std.proofs.Common.{sym, ap, ◌∙◌}
use Rattle.std.specs.List.{cons_option}
use Rattle.std.proofs.lemmas.List.{take_more, take_all, get_or_default}
use Rattle.std.proofs.lemmas.List.Elements.{filter_map-append}

-- one item more of a filtered list
pub filtered_more : {A B : Type 0} (f : A → Option B) (xs : List A) (i : _) (x : A) (old cur new : List B) → i < length xs → x ≡ get_or xs i x → cur ≡ old ++ filter_map f (take i xs)
    → new ≡ cur ++ cons_option (f x) []
    → new ≡ old ++ filter_map f (take (i + 1) xs)
filtered_more f xs i x old cur new lt at h e =
    let all : take (i + 1) xs ≡ take i xs ++ x ∷ [] = take_more xs i x lt ∙ ap (λ y. take i xs ++ (y ∷ [])) (sym at) in
    e ∙ ap (λ l. l ++ cons_option (f x) []) h ∙ append_assoc old (filter_map f (take i xs)) (cons_option (f x) [])
    ∙ ap (λ l. old ++ l) (sym (ap (filter_map f) all ∙ filter_map-append f (take i xs) (x ∷ [])))

pub filtered_at : {A B : Type 0} (f : A → Option B) (xs : List A) (i : _) (d : A) (old cur new : List B) → i < length xs → cur ≡ old ++ filter_map f (take i xs)
    → new ≡ cur ++ cons_option (f (get_or xs i d)) []
    → new ≡ old ++ filter_map f (take (i + 1) xs)
filtered_at f xs i d old cur new lt h e = filtered_more f xs i (get_or xs i d) old cur new lt (get_or_default xs i d (get_or xs i d) lt) h e

pub at_end : {A B : Type 0} (f : A → Option B) (xs : List A) (i : _) (ys zs : List B) → length xs ≤ i → zs ≡ ys → ys ≡ filter_map f (take i xs) → zs ≡ filter_map f xs
at_end f xs i ys zs le e h = e ∙ h ∙ ap (filter_map f) (take_all i xs le)
