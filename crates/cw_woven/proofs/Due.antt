-- Which bytes are spelled as one mark.
use Rattle.std.proofs.Common.{◌≡◌, ◌≢◌, ℕ, List, ◌++◌, sym, ap, ◌∙◌, append_assoc}
use Rattle.std.specs.Prelude.{codes}
use Rattle.std.proofs.lemmas.List.{append_cancel_right}
use Rattle.cw_woven.proofs.Fields.{same_middle}

with_name : (number name : List ℕ) → ((number ++ codes ",") ++ name) ++ codes ")" ≡ number ++ (codes "," ++ (name ++ codes ")"))
with_name number name = append_assoc (number ++ codes ",") name (codes ")") ∙ append_assoc number (codes ",") (name ++ codes ")")

module _ (front bytes name : List ℕ) where
  abbrev pub Named : List ℕ → Type 0
  Named number = bytes ≡ front ++ (number ++ (codes "," ++ (name ++ codes ")")))

  pub named : (fields numbered number : List ℕ) → bytes ≡ front ++ (fields ++ codes ")") → fields ≡ numbered ++ name → numbered ≡ number ++ codes "," → Named number
  named fields numbered number e f g =
      e ∙ ap (λ (l : List ℕ). front ++ (l ++ codes ")")) (f ∙ ap (λ (l : List ℕ). l ++ name) g) ∙ ap (λ (l : List ℕ). front ++ l) (with_name number name)

  -- what is a number with this name between the front and `)`
  pub fields_are : (number : List ℕ) → Named number → bytes ≡ front ++ (((number ++ codes ",") ++ name) ++ codes ")")
  fields_are number h = h ∙ ap (λ (l : List ℕ). front ++ l) (sym (with_name number name))

  pub fields_is : (fields number : List ℕ) → bytes ≡ front ++ (fields ++ codes ")") → Named number → fields ≡ (number ++ codes ",") ++ name
  fields_is fields number e h = same_middle front fields ((number ++ codes ",") ++ name) (codes ")") (sym e ∙ fields_are number h)

  pub numbered_is : (fields numbered number : List ℕ) → bytes ≡ front ++ (fields ++ codes ")") → fields ≡ numbered ++ name → Named number → numbered ≡ number ++ codes ","
  numbered_is fields numbered number e f h = append_cancel_right numbered (number ++ codes ",") name (sym f ∙ fields_is fields number e h)

  pub number_is : (fields numbered number other : List ℕ) → bytes ≡ front ++ (fields ++ codes ")") → fields ≡ numbered ++ name → numbered ≡ number ++ codes "," → Named other → number ≡ other
  number_is fields numbered number other e f g h = append_cancel_right number other (codes ",") (sym g ∙ numbered_is fields numbered other e f h)
