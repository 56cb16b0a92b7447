-- Where names are kept: what a name more changes, and what all names make.
use Rattle.std.proofs.Common.{◌≡◌, ℕ, ◌+◌, List, [], ◌∷◌, ◌++◌, Bool, true, false, cond, Some, None, option_map, map, refl, sym, ap, ap₂, ◌∙◌}
use Rattle.std.specs.Option.{option_or}
use Rattle.std.specs.List.{position_from}
use Rattle.std.specs.Borrow.{Bor}
use Rattle.std.specs.Str.{bytes_eq}
use Rattle.std.proofs.lemmas.Iterator.Adapters.{position_from-zero}
use Rattle.cw_syntax.specs.Names.{number_in}
use Rattle.cw_slots.specs.declared.numbers.Kept.{Kept}
use Rattle.cw_slots.specs.Texts.{text_at}
use Rattle.cw_slots.specs.Numbers.{HaveNames, found, kept_from, kept_of}

abbrev Entries : Type 0
Entries = List (Bor (List ℕ) × Kept)

found_behind : (name : List ℕ) (es : Entries) (t : Bor (List ℕ)) (k : Kept) → found name (es ++ (t, k) ∷ []) ≡ option_or (found name es) (cond (bytes_eq name t.now) (Some k) None)
found_behind name [] t k = refl
found_behind name (e ∷ es) t k = by (bytes_eq name e.0.now) (found_behind name es t k)
  where
    by : (b : Bool) → found name (es ++ (t, k) ∷ []) ≡ option_or (found name es) (cond (bytes_eq name t.now) (Some k) None)
        → cond b (Some e.1) (found name (es ++ (t, k) ∷ [])) ≡ option_or (cond b (Some e.1) (found name es)) (cond (bytes_eq name t.now) (Some k) None)
    by true h = refl
    by false h = h

pub put_found : (old new : Entries) (t : Bor (List ℕ)) (k : Kept) → new ≡ old ++ (t, k) ∷ [] → (name : List ℕ) → found name new ≡ option_or (found name old) (cond (bytes_eq name t.now) (Some k) None)
put_found old new t k is name = ap (found name) is ∙ found_behind name old t k

kept_on : (arrays : Bool) (name : List ℕ) (n : ℕ) (ts : List (Bor (List ℕ))) → kept_from arrays name n ts ≡ option_map (kept_of arrays) (position_from (bytes_eq name) n (map text_at ts))
kept_on arrays name n [] = refl
kept_on arrays name n (t ∷ ts) = by (bytes_eq name t.now) (kept_on arrays name (n + 1) ts)
  where
    by : (b : Bool) → kept_from arrays name (n + 1) ts ≡ option_map (kept_of arrays) (position_from (bytes_eq name) (n + 1) (map text_at ts))
        → cond b (Some (kept_of arrays n)) (kept_from arrays name (n + 1) ts) ≡ option_map (kept_of arrays) (cond b (Some n) (position_from (bytes_eq name) (n + 1) (map text_at ts)))
    by true h = refl
    by false h = h

kept_is : (arrays : Bool) (name : List ℕ) (ts : List (Bor (List ℕ))) → kept_from arrays name 0 ts ≡ option_map (kept_of arrays) (number_in (map text_at ts) name)
kept_is arrays name ts = kept_on arrays name 0 ts ∙ ap (option_map (kept_of arrays)) (sym (position_from-zero (bytes_eq name) (map text_at ts)))

pub have_names : (none some all : Entries) (plain arrays : List (Bor (List ℕ))) → none ≡ []
    → ((name : List ℕ) → found name some ≡ option_or (found name none) (kept_from true name 0 arrays))
    → ((name : List ℕ) → found name all ≡ option_or (found name some) (kept_from false name 0 plain)) → HaveNames all plain arrays
have_names none some all plain arrays is first then name =
    let begun : found name some ≡ option_map (kept_of true) (number_in (map text_at arrays) name)
    = first name ∙ ap (λ es. option_or (found name es) (kept_from true name 0 arrays)) is ∙ kept_is true name arrays in
    then name ∙ ap₂ option_or begun (kept_is false name plain)
