-- Fields between separators.
use Rattle.std.proofs.Common.{◌≡◌, ℕ, Bool, true, false, cond, eqb, List, [], ◌∷◌, ◌++◌, length, not, refl, sym, ap, ◌∙◌, arith, eq-eqb}
use Rattle.std.specs.List.{All}
use Rattle.std.proofs.lemmas.List.Elements.{All-head, All-tail}
use Rattle.std.proofs.lemmas.List.Splits.{slice_split_at, slice_split_none, length-slice_split, join_with_byte-slice_split}
use Rattle.cw_text.specs.Lines.{IsFree, joined, fields_by}

pub fields_first : (separator : ℕ) (text front rest : List ℕ) → text ≡ front ++ (separator ∷ rest) → IsFree separator front → fields_by separator text ≡ front ∷ fields_by separator rest
fields_first separator text front rest e free = rw e (slice_split_at (λ (b : ℕ). eqb b separator) front separator rest free (eq-eqb separator separator refl))

pub fields_last : (separator : ℕ) (text : List ℕ) → IsFree separator text → fields_by separator text ≡ text ∷ []
fields_last separator text free = slice_split_none (λ (b : ℕ). eqb b separator) text free

-- a text has a field at least
pub some_field : (separator : ℕ) (text : List ℕ) → fields_by separator text ≡ [] → ⊥
some_field separator text e = omega (arith, ap length e, length-slice_split (λ (b : ℕ). eqb b separator) text)

-- the fields of joined fields are these
pub fields-joined : (separator : ℕ) (field : List ℕ) (fields : List (List ℕ)) → All (IsFree separator) (field ∷ fields) → fields_by separator (joined separator (field ∷ fields)) ≡ field ∷ fields
fields-joined separator field [] free = fields_last separator field (All-head (IsFree separator) field [] free)
fields-joined separator field (next ∷ fields) free =
    let rest = fields-joined separator next fields (All-tail (IsFree separator) field (next ∷ fields) free) in
    fields_first separator (joined separator (field ∷ next ∷ fields)) field (joined separator (next ∷ fields)) refl (All-head (IsFree separator) field (next ∷ fields) free)
    ∙ ap (λ (ws : List (List ℕ)). field ∷ ws) rest

-- and the fields of a text, joined, are the text
pub joined-fields : (separator : ℕ) (text : List ℕ) → joined separator (fields_by separator text) ≡ text
joined-fields separator text = join_with_byte-slice_split separator text

-- what is left of the fields of a text
abbrev pub left : ℕ → List ℕ → Bool → List (List ℕ)
left separator text more = cond more (fields_by separator text) []

pub done_exactly : (separator : ℕ) (text : List ℕ) (more : Bool) (view : List (List ℕ)) → view ≡ left separator text more → (not more ≡ true → view ≡ []) × (view ≡ [] → not more ≡ true)
done_exactly separator text true view is = ((λ e. absurd cc), λ e. absurd (some_field separator text (sym is ∙ e)))
done_exactly separator text false view is = ((λ e. is), λ e. refl)

pub takes_first : (separator : ℕ) (text front rest : List ℕ) (more : Bool) (view : List (List ℕ)) → more ≡ true → view ≡ left separator text more → text ≡ front ++ (separator ∷ rest)
    → IsFree separator front → view ≡ front ∷ left separator rest more
takes_first separator text front rest true view on is e free = is ∙ fields_first separator text front rest e free
takes_first separator text front rest false view on is e free = absurd cc

pub takes_last : (separator : ℕ) (text : List ℕ) (more : Bool) (view : List (List ℕ)) → more ≡ true → view ≡ left separator text more → IsFree separator text → view ≡ text ∷ []
takes_last separator text true view on is free = is ∙ fields_last separator text free
takes_last separator text false view on is free = absurd cc
