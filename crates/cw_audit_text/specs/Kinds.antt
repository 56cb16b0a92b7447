-- Working definitions: a line by its first field.
use Rattle.std.specs.Prelude.{◌≡◌, ℕ, List, [], ◌∷◌, codes}
use Rattle.std.specs.Fmt.{decimal}
use Rattle.cw_text.specs.Moves.{move_name, IsEnvironments}
use Rattle.cw_audit_text.specs.declared.text_line.TextLine.{TextLine}
use Rattle.cw_audit_text.specs.declared.text_line.TextLine.TheVariants.{Head, States, Meets, Violates, Go, In, At, End}
use Rattle.cw_audit_text.specs.declared.text_line.LineKind.{LineKind}
use Rattle.cw_audit_text.specs.declared.text_line.LineKind.TheVariants as kind
use Rattle.cw_audit_text.specs.TextLines.{FitsLine}

abbrev pub kind_in : TextLine → LineKind
kind_in Head = kind.Head
kind_in (States n) = kind.States
kind_in Meets = kind.Meets
kind_in (Violates T) = kind.Violates
kind_in (Go by) = kind.Go by
kind_in (In f q r) = kind.In
kind_in (At p x a) = kind.At
kind_in End = kind.End

abbrev pub kind_field : LineKind → List ℕ
kind_field kind.Head = codes "capweave"
kind_field kind.States = codes "states"
kind_field kind.Meets = codes "meets"
kind_field kind.Violates = codes "violates"
kind_field (kind.Go by) = move_name by
kind_field kind.In = codes "in"
kind_field kind.At = codes "at"
kind_field kind.End = codes "end"

-- the kinds whose first field is one word for each
abbrev pub word_kinds : List (List ℕ × LineKind)
word_kinds =
    (codes "in", kind.In) ∷ (codes "at", kind.At) ∷ (codes "capweave", kind.Head) ∷ (codes "states", kind.States)
    ∷ (codes "meets", kind.Meets) ∷ (codes "violates", kind.Violates) ∷ (codes "end", kind.End) ∷ []

abbrev pub rest_fields : TextLine → List (List ℕ)
rest_fields Head = codes "audit" ∷ codes "1" ∷ []
rest_fields (States n) = decimal n ∷ []
rest_fields Meets = []
rest_fields (Violates T) = decimal T ∷ []
rest_fields (Go by) = []
rest_fields (In f q r) = decimal f ∷ decimal q ∷ decimal r ∷ []
rest_fields (At p x a) = decimal p ∷ decimal x ∷ decimal a ∷ []
rest_fields End = []

abbrev pub FitsKind : LineKind → Type 0
FitsKind (kind.Go by) = IsEnvironments by
FitsKind k = Unit {0}

pub record IsOf (k : LineKind) (l : TextLine) : Type 0 where
  pub fits : FitsLine l
  pub kind : kind_in l ≡ k
