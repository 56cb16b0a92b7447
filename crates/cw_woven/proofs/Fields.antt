-- Numbers and names between fixed bytes.
use Rattle.std.proofs.Common.{◌≡◌, ◌≢◌, ℕ, List, ◌∷◌, ◌++◌, refl, sym, ap, subst, ◌∙◌, arith, append_assoc}
use Rattle.std.specs.Prelude.{codes, IsTrue}
use Rattle.std.specs.Fmt.{decimal}
use Rattle.std.proofs.lemmas.List.{append_cancel_left, append_cancel_right}
use Rattle.cw_rights.specs.Valid.{is_name}
use Rattle.cw_text.specs.Lines.{IsFree}
use Rattle.cw_text.proofs.Free.{one_line, no_line, decimal_free}
use Rattle.cw_woven.specs.Woven.{IsNumber, IsNumbered, IsNamed}

pub same_middle : (front a b back : List ℕ) → front ++ (a ++ back) ≡ front ++ (b ++ back) → a ≡ b
same_middle front a b back e = append_cancel_right a b back (append_cancel_left front (a ++ back) (b ++ back) e)

pub numbered : (front back bytes middle : List ℕ) → bytes ≡ front ++ (middle ++ back) → IsNumber middle → IsNumbered front back bytes
numbered front back bytes middle e h = (h.0, h.1, e ∙ ap (λ (z : List ℕ). front ++ (z ++ back)) h.2)

pub number_in : (front back bytes middle : List ℕ) → bytes ≡ front ++ (middle ++ back) → IsNumbered front back bytes → IsNumber middle
number_in front back bytes middle e h = (h.0, h.1, same_middle front middle (decimal h.0) back (sym e ∙ h.2))

fields_end : (number name : List ℕ) → (number ++ (44 ∷ name)) ++ codes ")" ≡ number ++ (codes "," ++ (name ++ codes ")"))
fields_end number name = append_assoc number (44 ∷ name) (codes ")")

pub named : (front bytes fields number name : List ℕ) → bytes ≡ front ++ (fields ++ codes ")") → fields ≡ number ++ (44 ∷ name) → IsNumber number → IsTrue (is_name name) → IsNamed front bytes
named front bytes fields number name e f h t =
    (h.0, name, h.1, t, e ∙ ap (λ (z : List ℕ). front ++ (z ++ codes ")")) f ∙ ap (λ (z : List ℕ). front ++ z) (fields_end number name) ∙ ap (λ (z : List ℕ). front ++ (z ++ (codes "," ++ (name ++ codes ")")))) h.2)

fields_are : (front bytes fields : List ℕ) → bytes ≡ front ++ (fields ++ codes ")") → (h : IsNamed front bytes) → fields ≡ decimal h.0 ++ (44 ∷ h.1)
fields_are front bytes fields e h =
    let both : front ++ (fields ++ codes ")") ≡ front ++ ((decimal h.0 ++ (44 ∷ h.1)) ++ codes ")") = sym e ∙ h.4 ∙ ap (λ (z : List ℕ). front ++ z) (sym (fields_end (decimal h.0) h.1)) in
    same_middle front fields (decimal h.0 ++ (44 ∷ h.1)) (codes ")") both

pub no_fields : (front bytes fields : List ℕ) → bytes ≡ front ++ (fields ++ codes ")") → IsFree 44 fields → IsNamed front bytes → ⊥
no_fields front bytes fields e free h = no_line 44 fields (decimal h.0) h.1 free (fields_are front bytes fields e h)

pub both_fields : (front bytes fields number name : List ℕ) → bytes ≡ front ++ (fields ++ codes ")") → fields ≡ number ++ (44 ∷ name) → IsFree 44 number → IsNamed front bytes → IsNumber number × IsTrue (is_name name)
both_fields front bytes fields number name e f free h =
    let lt = h.2 in
    let same = one_line 44 number (decimal h.0) name h.1 free (decimal_free 44 h.0 refl (omega (arith, lt))) (sym f ∙ fields_are front bytes fields e h) in
    ((h.0, h.2, same.0), subst (λ (z : List ℕ). IsTrue (is_name z)) (sym same.1) h.3)

pub no_named : (front bytes : List ℕ) → ((middle : List ℕ) → bytes ≢ front ++ (middle ++ codes ")")) → IsNamed front bytes → ⊥
no_named front bytes none h = none (decimal h.0 ++ (44 ∷ h.1)) (h.4 ∙ ap (λ (z : List ℕ). front ++ z) (sym (fields_end (decimal h.0) h.1)))
