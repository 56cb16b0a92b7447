-- Names in a set of labels.
use Rattle.std.proofs.Common.{◌≡◌, ℕ, List, [], ◌∷◌, ◌++◌, Bool, true, false, ◌||◌, ◌+◌, cond, Option, Some, unwrap_or, Vec, Global, refl, sym, ap, ◌∙◌}
use Rattle.std.specs.List.{list_any, position, position_from}
use Rattle.std.proofs.lemmas.Iterator.Adapters.{position_from-zero}
use Rattle.std.specs.Str.{bytes_eq}
use Rattle.cw_regex.specs.Labels.{names_in}
use Rattle.cw_regex.specs.Meaning.{with_name, number_in}

pub any_name : (keys : List (Vec ℕ Global)) (w : List ℕ) → list_any (λ k. bytes_eq w k.items) keys ≡ list_any (bytes_eq w) (names_in keys)
any_name [] w = refl
any_name (k ∷ keys) w = ap (λ b. bytes_eq w k.items || b) (any_name keys w)

names_append : (keys : List (Vec ℕ Global)) (k : Vec ℕ Global) → names_in (keys ++ k ∷ []) ≡ names_in keys ++ k.items ∷ []
names_append [] k = refl
names_append (x ∷ keys) k = ap (λ l. x.items ∷ l) (names_append keys k)

pub known_name : (keys : List (Vec ℕ Global)) (w : List ℕ) → list_any (λ k. bytes_eq w k.items) keys ≡ true → names_in keys ≡ with_name (names_in keys) w
known_name keys w e = let f = sym (any_name keys w) ∙ e in rw f refl

pub new_name : (keys new : List (Vec ℕ Global)) (k : Vec ℕ Global) (w : List ℕ) → new ≡ cond (list_any (λ x. bytes_eq k.items x.items) keys) keys (keys ++ k ∷ []) → k.items ≡ w →
    names_in new ≡ with_name (names_in keys) w
new_name keys new k w e f = ap names_in e ∙ by (list_any (λ x. bytes_eq k.items x.items) keys) refl
  where
    by : (b : Bool) → list_any (λ x. bytes_eq k.items x.items) keys ≡ b → names_in (cond b keys (keys ++ k ∷ [])) ≡ with_name (names_in keys) w
    by true h = let z = sym (any_name keys w) ∙ ap (λ v. list_any (λ x. bytes_eq v x.items) keys) (sym f) ∙ h in rw z refl
    by false h = let z = sym (any_name keys w) ∙ ap (λ v. list_any (λ x. bytes_eq v x.items) keys) (sym f) ∙ h in rw z (names_append keys k ∙ ap (λ v. names_in keys ++ v ∷ []) f)

same_place : (keys : List (Vec ℕ Global)) (w : List ℕ) (i : ℕ) → position_from (λ (k : Vec ℕ Global). bytes_eq w k.items) i keys ≡ position_from (bytes_eq w) i (names_in keys)
same_place [] w i = refl
same_place (k ∷ keys) w i = ap (λ o. cond (bytes_eq w k.items) (Some i) o) (same_place keys w (i + 1))

-- the place of a key is that of its name
pub place_is : (keys : List (Vec ℕ Global)) (w : List ℕ) (o : Option ℕ) → o ≡ position (λ (k : Vec ℕ Global). bytes_eq w k.items) keys → unwrap_or o 0 ≡ number_in (names_in keys) w
place_is keys w o e = ap (λ x. unwrap_or x 0) (e ∙ position_from-zero (λ (k : Vec ℕ Global). bytes_eq w k.items) keys ∙ same_place keys w 0 ∙ sym (position_from-zero (bytes_eq w) (names_in keys)))
