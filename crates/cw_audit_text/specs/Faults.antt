-- The first line at fault of a text that is no audit's.
use Rattle.std.specs.Prelude.{◌≡◌, ◌≢◌, ℕ, ◌+◌, List, [], ◌∷◌, ◌++◌, length, Option, Some, None, Result, Ok, Err}
use Rattle.cw_audit_table.specs.Tables.{Audit, PlainGroup}
use Rattle.cw_text.specs.Lines.{states_line}
use Rattle.cw_audit_text.specs.declared.text_line.TextLine.{TextLine}
use Rattle.cw_audit_text.specs.declared.text_line.TextLine.TheVariants.{Head, States, Meets, Violates, Go, In, At, End}
use Rattle.cw_audit_text.specs.declared.fault.AuditTextFault.{AuditTextFault}
use Rattle.cw_audit_text.specs.declared.fault.AuditTextFault.TheVariants.{Line, NoMemory}
use Rattle.cw_audit_text.specs.TextLines.{whole_line, FitsLine}
use Rattle.cw_audit_text.specs.AuditText.{head_line, verdict_line, body_of, whole_lines, Fits, Spells}

-- the text begins with this line, and this is behind it
pub record StartsWith (text : List ℕ) (l : TextLine) (rest : List ℕ) : Type 0 where
  pub fits : FitsLine l
  pub spelled : text ≡ whole_line l ++ rest

-- the first lines of the text are those of an audit up to its end, and this is the rest of the text
pub record Begins (text : List ℕ) (t : Audit) (rest : List ℕ) : Type 0 where
  pub fits : Fits t
  pub spelled : text ≡ head_line ++ (states_line t.states ++ (verdict_line t.distance ++ (whole_lines (body_of t) ++ rest)))

-- A move may follow a distance and moves, a row a group.
abbrev pub MayFollow : Option ℕ → List PlainGroup → TextLine → Type 0
MayFollow (Some T) [] (Go by) = Unit {0}
MayFollow D groups (In f q r) = Unit {0}
MayFollow D (g ∷ groups) (At p x a) = Unit {0}
MayFollow D groups i = ⊥

abbrev pub verdict_of : Option ℕ → TextLine
verdict_of None = Meets
verdict_of (Some T) = Violates T

-- Lines are numbered from 1: the head, the states, the verdict, then a line for each move, group and row.
pub data IsFault (text : List ℕ) : AuditTextFault → Type 0 where
  -- the text doesn't begin with the head
  no_head : ((rest : List ℕ) → StartsWith text Head rest → ⊥) → IsFault text (Line 1)
  -- what follows is no line of states
  no_states : (rest : List ℕ) → StartsWith text Head rest → ((states : ℕ) (more : List ℕ) → StartsWith rest (States states) more → ⊥) → IsFault text (Line 2)
  -- what follows is no verdict
  no_verdict : (states : ℕ) (after rest : List ℕ) → StartsWith text Head after → StartsWith after (States states) rest
      → ((distance : Option ℕ) (more : List ℕ) → StartsWith rest (verdict_of distance) more → ⊥) → IsFault text (Line 3)
  -- what follows is neither the end nor the line of a move, a group or a row that may follow
  no_line : (t : Audit) (rest : List ℕ) → Begins text t rest → ((more : List ℕ) → StartsWith rest End more → ⊥)
      → ((l : TextLine) (more : List ℕ) → MayFollow t.distance t.groups l → StartsWith rest l more → ⊥) → IsFault text (Line (length (body_of t) + 4))
  -- something follows the end
  no_end : (t : Audit) (rest more : List ℕ) → Begins text t rest → StartsWith rest End more → more ≢ [] → IsFault text (Line (length (body_of t) + 5))

-- why a reader has no audit to give: the fault of the text, or want of memory
abbrev pub IsCause : (text : List ℕ) → AuditTextFault → Type 0
IsCause text NoMemory = Unit {0}
IsCause text fault = IsFault text fault

-- what a text is: that of an audit, or one with a fault
abbrev pub IsAnswer : (text : List ℕ) → Result Audit AuditTextFault → Type 0
IsAnswer text (Ok t) = Spells text t
IsAnswer text (Err fault) = IsFault text fault
