-- The lesser of two places.
use Rattle.std.proofs.Common.{◌≡◌, ℕ, ◌+◌, ◌<◌, min, List, ◌∷◌, drop, length, get_or, Option, None, Some, refl, sym, ap, ◌∙◌, arith}
use Rattle.std.proofs.lemmas.List.{drop_more}
use Rattle.cw_resolve.specs.Soonest.{sooner}

min_assoc : (a b c : ℕ) → min (min a b) c ≡ min a (min b c)
min_assoc a b c = omega arith

pub sooner_assoc : (a b c : Option ℕ) → sooner (sooner a b) c ≡ sooner a (sooner b c)
sooner_assoc None b c = refl
sooner_assoc (Some a) None c = refl
sooner_assoc (Some a) (Some b) None = refl
sooner_assoc (Some a) (Some b) (Some c) = ap Some (min_assoc a b c)

-- A loop that takes the lesser of what it has and what `rest` gives for the elements that are left: one element further.
pub lesser_further : {X : Type 0} (rest : List X → Option ℕ) (xs : List X) (i : ℕ) (x : X) (old new own whole : Option ℕ) → i < length xs → x ≡ get_or xs i x
    → ((ys : List X) → rest (x ∷ ys) ≡ sooner own (rest ys)) → new ≡ sooner old own → sooner old (rest (drop i xs)) ≡ whole → sooner new (rest (drop (i + 1) xs)) ≡ whole
lesser_further rest xs i x old new own whole lt at each is before =
    let left = drop (i + 1) xs in
    ap (λ o. sooner o (rest left)) is
    ∙ sooner_assoc old own (rest left)
    ∙ ap (sooner old) (sym (each left) ∙ ap rest (ap (λ y. y ∷ left) at ∙ sym (drop_more xs i x lt)))
    ∙ before
