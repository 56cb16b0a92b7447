-- The lines of an audit's text.
use Rattle.std.specs.Prelude.{ℕ, ◌^◌, ◌<◌, List, [], ◌∷◌, codes}
use Rattle.std.specs.Fmt.{decimal}
use Rattle.cw_text.specs.Lines.{line, joined}
use Rattle.cw_text.specs.Moves.{move_name, IsEnvironments}
use Rattle.cw_audit_text.specs.declared.text_line.TextLine.{TextLine}
use Rattle.cw_audit_text.specs.declared.text_line.TextLine.TheVariants.{Head, States, Meets, Violates, Go, In, At, End}

-- `capweave audit 1`; `states N`; `meets`, `violates T`; a move by its name; `in FUNCTION STATE REACH`; `at POSITION STATE INSIDE`; `end`
abbrev pub line_fields : TextLine → List (List ℕ)
line_fields Head = codes "capweave" ∷ codes "audit" ∷ codes "1" ∷ []
line_fields (States n) = codes "states" ∷ decimal n ∷ []
line_fields Meets = codes "meets" ∷ []
line_fields (Violates T) = codes "violates" ∷ decimal T ∷ []
line_fields (Go by) = move_name by ∷ []
line_fields (In f q r) = codes "in" ∷ decimal f ∷ decimal q ∷ decimal r ∷ []
line_fields (At p x a) = codes "at" ∷ decimal p ∷ decimal x ∷ decimal a ∷ []
line_fields End = codes "end" ∷ []

-- A move is one of the environment's seven, and each number fits its field.
abbrev pub FitsLine : TextLine → Type 0
FitsLine Head = Unit {0}
FitsLine (States n) = n < 2 ^ 16
FitsLine Meets = Unit {0}
FitsLine (Violates T) = T < 2 ^ 32
FitsLine (Go by) = IsEnvironments by
FitsLine (In f q r) = (f < 2 ^ 16) × (q < 2 ^ 16) × (r < 2 ^ 32)
FitsLine (At p x a) = (p < 2 ^ 32) × (x < 2 ^ 16) × (a < 2 ^ 32)
FitsLine End = Unit {0}

unfoldable pub line_text : TextLine → List ℕ
line_text l = joined 32 (line_fields l)

abbrev pub whole_line : TextLine → List ℕ
whole_line l = line (line_text l)
