-- The place of a name.
use Rattle.std.proofs.Common.{◌≡◌, ℕ, List, [], ◌∷◌, true, Option, Some, unwrap_or, refl, sym, ap, ◌∙◌}
use Rattle.std.specs.List.{position_from}
use Rattle.std.specs.Str.{bytes_eq}
use Rattle.std.proofs.lemmas.Iterator.Adapters.{position_from-zero}
use Rattle.cw_rights.specs.declared.policy.Descriptor.{Descriptor}
use Rattle.cw_regex.specs.Meaning.{names_of, number_in}

pub number_is : (names : List (List ℕ)) (w : List ℕ) → number_in names w ≡ unwrap_or (position_from (bytes_eq w) 0 names) 0
number_is names w = ap (λ o. unwrap_or o 0) (position_from-zero (bytes_eq w) names)

-- the search ends at a name, or at the end of the list
pub found_here : (ds : List Descriptor) (d : Descriptor) (rest : List Descriptor) (w : List ℕ) (i : ℕ) → ds ≡ d ∷ rest → bytes_eq w d.name.items ≡ true → (o : Option ℕ) →
    position_from (bytes_eq w) i (names_of ds) ≡ o → i ≡ unwrap_or o 0
found_here ds d rest w i e f o h =
    let z : position_from (bytes_eq w) i (names_of ds) ≡ Some i = ap (λ l. position_from (bytes_eq w) i (names_of l)) e ∙ rw f refl in
    ap (λ x. unwrap_or x 0) (sym z ∙ h)

pub found_none : (ds : List Descriptor) (w : List ℕ) (i : ℕ) → ds ≡ [] → (o : Option ℕ) → position_from (bytes_eq w) i (names_of ds) ≡ o → 0 ≡ unwrap_or o 0
found_none ds w i e o h = ap (λ x. unwrap_or x 0) (sym (ap (λ l. position_from (bytes_eq w) i (names_of l)) e) ∙ h)
