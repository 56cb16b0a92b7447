-- The text of an audit, and of which audits there is one.
use Rattle.std.specs.Prelude.{◌≡◌, ℕ, ◌^◌, ◌<◌, List, [], ◌∷◌, ◌++◌, map, codes, Option, Some, None}
use Rattle.std.specs.Fmt.{decimal}
use Rattle.std.specs.List.{flat_map, All}
use Rattle.cw_certs.specs.declared.moves.Move.{Move}
use Rattle.cw_text.specs.Lines.{line, joined, states_line, end_line}
use Rattle.cw_audit_table.specs.Tables.{PlainRow, PlainGroup, Audit}
use Rattle.cw_audit_text.specs.declared.text_line.TextLine.{TextLine}
use Rattle.cw_audit_text.specs.declared.text_line.TextLine.TheVariants.{Go, In, At}
use Rattle.cw_audit_text.specs.TextLines.{whole_line, FitsLine}

-- the lines of an audit's text
unfoldable pub head_line : List ℕ
head_line = line (codes "capweave audit 1")

unfoldable pub verdict_line : Option ℕ → List ℕ
verdict_line None = line (codes "meets")
verdict_line (Some T) = line (joined 32 (codes "violates" ∷ decimal T ∷ []))

-- the moves, and each group with its rows behind it
abbrev pub row_line : PlainRow → TextLine
row_line r = At r.pos r.state r.inside

abbrev pub group_lines : PlainGroup → List TextLine
group_lines g = In g.function g.entered g.reach ∷ map row_line g.rows

abbrev pub body_of : Audit → List TextLine
body_of t = map Go t.moves ++ flat_map group_lines t.groups

unfoldable pub whole_lines : List TextLine → List ℕ
whole_lines items = flat_map whole_line items

unfoldable pub audit_text : Audit → List ℕ
audit_text t = head_line ++ (states_line t.states ++ (verdict_line t.distance ++ (whole_lines (body_of t) ++ end_line)))

abbrev pub FitsDistance : Option ℕ → Type 0
FitsDistance None = Unit {0}
FitsDistance (Some T) = T < 2 ^ 32

-- moves stand behind a distance alone
abbrev pub HasNoMoves : Option ℕ → List Move → Type 0
HasNoMoves None moves = moves ≡ []
HasNoMoves (Some T) moves = Unit {0}

-- an audit that has a text
pub record Fits (t : Audit) : Type 0 where
  pub states : t.states < 2 ^ 16
  pub distance : FitsDistance t.distance
  pub moves : HasNoMoves t.distance t.moves
  pub items : All FitsLine (body_of t)

-- the text is that of the audit
pub record Spells (text : List ℕ) (t : Audit) : Type 0 where
  pub fits : Fits t
  pub spelled : text ≡ audit_text t
