-- The texts of a set, and those of a list.
use Rattle.std.proofs.Common.{◌≡◌, ℕ, List, [], ◌∷◌, ◌++◌, map, Bool, ◌||◌, ◌&&◌, refl, sym, ap, ◌∙◌}
use Rattle.std.specs.List.{list_any}
use Rattle.std.specs.Borrow.{Bor}
use Rattle.std.specs.Str.{bytes_eq}
use Rattle.std.proofs.lemmas.List.{map_push}
use Rattle.std.proofs.lemmas.List.Folds.{list_any-append}
use Rattle.cw_syntax.specs.Trees.{Declared}
use Rattle.cw_value.specs.Starts.{has_list}
use Rattle.cw_slots.specs.Texts.{text_at}
use Rattle.cw_starts.specs.Alike.{AreAlike}
use Rattle.cw_starts.specs.Held.{named_at}

pub held : (t : List ℕ) (keys : List (Bor (List ℕ))) → list_any (λ k. bytes_eq t k.now) keys ≡ list_any (bytes_eq t) (map text_at keys)
held t [] = refl
held t (k ∷ ks) = ap (λ b. bytes_eq t k.now || b) (held t ks)

-- one more in each
pub one_more : (old_keys new_keys old_list new_list : List (Bor (List ℕ))) (text : Bor (List ℕ))
    → AreAlike (map text_at new_keys) (map text_at old_keys ++ text.now ∷ []) → AreAlike (map text_at old_keys) (map text_at old_list)
    → new_list ≡ old_list ++ text ∷ [] → AreAlike (map text_at new_keys) (map text_at new_list)
one_more old_keys new_keys old_list new_list text put same is t =
    put t
    ∙ list_any-append (bytes_eq t) (map text_at old_keys) (text.now ∷ [])
    ∙ ap (λ b. b || list_any (bytes_eq t) (text.now ∷ [])) (same t)
    ∙ sym (list_any-append (bytes_eq t) (map text_at old_list) (text.now ∷ []))
    ∙ ap (list_any (bytes_eq t)) (sym (ap (map text_at) is ∙ map_push text_at old_list text))

-- whether a name is among these texts, or is that of one of these with an initialiser
abbrev pub either_has : List ℕ → List ℕ → List (List ℕ) → List Declared → Bool
either_has bytes name texts rest = list_any (bytes_eq name) texts || list_any (λ i. named_at bytes name i && has_list i.init) rest
