-- The woven text: a prologue with the table, and the source with the marks of its seams.
use Rattle.std.specs.Prelude.{◌≡◌, ℕ, ◌-◌, List, [], ◌∷◌, ◌++◌, None, Some, length, take, drop, codes}
use Rattle.std.specs.Fmt.{decimal}
use Rattle.cw_rights.specs.Policies.{PlainPolicy}
use Rattle.cw_syntax.specs.Names.{text}
use Rattle.cw_syntax.specs.Marks.{MarkKind, EntryMark, LabelMark, OpenMark, CloseMark, CallMark, SeamMark, AreInOrder}
use Rattle.cw_certs.specs.Tables.{Table}
use Rattle.cw_text.specs.RowLines.{with_fields}
use Rattle.cw_text.specs.LimitsText.{descriptor_name}
use Rattle.cw_table_text.specs.TablesText.{tables_text}
use Rattle.cw_emit.specs.Cut.{part}
use Rattle.cw_syntax.specs.PlainMarks.{HasNone, ArePlainMarks}

-- A mark as it is spelled. That of an entry is a statement of its own, the others are prefixes of one. An open has the
-- descriptor's name in the policy, a call whose result is taken the variable that takes it.
abbrev pub spelling : PlainPolicy → List ℕ → ℕ → MarkKind → List ℕ
spelling policy source seam EntryMark = with_fields (codes "CW_ENTRY") (decimal seam ∷ []) ++ codes ";"
spelling policy source seam LabelMark = with_fields (codes "CW_LABEL") (decimal seam ∷ [])
spelling policy source seam (OpenMark d) = with_fields (codes "CW_OPEN") (decimal seam ∷ descriptor_name policy d ∷ [])
spelling policy source seam CloseMark = with_fields (codes "CW_CLOSE") (decimal seam ∷ [])
spelling policy source seam (CallMark None) = with_fields (codes "CW_CALL") (decimal seam ∷ [])
spelling policy source seam (CallMark (Some x)) = with_fields (codes "CW_CALLV") (decimal seam ∷ text source x ∷ [])

abbrev pub spelled : PlainPolicy → List ℕ → SeamMark → List ℕ
spelled policy source m = spelling policy source m.seam m.kind

-- where a mark stands, and how it is spelled
abbrev pub placed : PlainPolicy → List ℕ → SeamMark → ℕ × List ℕ
placed policy source m = (m.place, spelled policy source m)

-- the source from a place on, with each mark at its place
unfoldable pub woven_from : PlainPolicy → List ℕ → ℕ → List SeamMark → List ℕ
woven_from policy source at [] = drop at source
woven_from policy source at (m ∷ ms) = take (m.place - at) (drop at source) ++ (part (spelled policy source m) ++ woven_from policy source m.place ms)

abbrev pub woven : PlainPolicy → List ℕ → List SeamMark → List ℕ
woven policy source marks = woven_from policy source 0 marks

-- a part with the lines of the table; its first line has the opening alone
abbrev pub prologue : PlainPolicy → Table → List ℕ
prologue policy table = part (codes "\n" ++ tables_text policy table)

-- the woven text: the prologue, and then the source with its marks
abbrev pub woven_text : List ℕ → List SeamMark → Table → PlainPolicy → List ℕ
woven_text source marks table policy = prologue policy table ++ woven policy source marks

-- the text is that
abbrev pub Stands : List ℕ → List ℕ → List SeamMark → Table → PlainPolicy → Type 0
Stands text source marks table policy = text ≡ woven_text source marks table policy

-- no name that is spelled has a slash: a name has letters, digits and `_`
abbrev pub ArePlainNames : PlainPolicy → Type 0
ArePlainNames policy = (d : ℕ) → HasNone (codes "/") (descriptor_name policy d)

-- the text stands for the source, the marks and the table, and these are such that the weaver's parts can be told from the rest
pub record StandsPlainly (text source : List ℕ) (marks : List SeamMark) (table : Table) (policy : PlainPolicy) : Type 0 where
  pub stands : Stands text source marks table policy
  pub free : HasNone (codes "cw{*") source
  pub names : ArePlainNames policy
  pub marked : ArePlainMarks source marks
  pub order : AreInOrder 0 (length source) marks
