-- Working definitions: where a text goes on with no more lines of a kind.
use Rattle.std.specs.Prelude.{◌≡◌, ℕ, List, [], ◌∷◌, Option, Some, None}
use Rattle.cw_certs.specs.declared.moves.Move.{Move}
use Rattle.cw_audit_table.specs.declared.table.Group.{Group}
use Rattle.cw_audit_text.specs.declared.text_line.TextLine.TheVariants.{Go, In, At}
use Rattle.cw_audit_text.specs.Faults.{StartsWith}

abbrev pub NoMove : List ℕ → Type 0
NoMove text = (by : Move) (more : List ℕ) → StartsWith text (Go by) more → ⊥

abbrev pub NoGroup : List ℕ → Type 0
NoGroup text = (f q r : ℕ) (more : List ℕ) → StartsWith text (In f q r) more → ⊥

abbrev pub NoRow : List ℕ → Type 0
NoRow text = (p x a : ℕ) (more : List ℕ) → StartsWith text (At p x a) more → ⊥

-- behind a distance no move goes on
abbrev pub StopsMoves : Option ℕ → List ℕ → Type 0
StopsMoves None rest = Unit {0}
StopsMoves (Some T) rest = NoMove rest

-- behind no group the text is as it was; behind some, no row goes on
abbrev pub StopsAt : List Group → (text rest : List ℕ) → Type 0
StopsAt [] text rest = rest ≡ text
StopsAt (g ∷ groups) text rest = NoRow rest
