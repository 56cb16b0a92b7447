-- A table has one text under a policy and under the policy varied in the same format, and so has a strategy.
use Rattle.std.proofs.Common.{◌≡◌, ℕ, ◌-◌, List, [], ◌∷◌, ◌++◌, Bool, Some, None, take, drop, refl, sym, ap, ap₂, ◌∙◌}
use Rattle.std.specs.Prelude.{codes}
use Rattle.cw_rights.specs.Policies.{PlainPolicy}
use Rattle.cw_syntax.specs.Marks.{MarkKind, EntryMark, LabelMark, OpenMark, CloseMark, CallMark, SeamMark, marks_of}
use Rattle.cw_certs.specs.Tables.{Table}
use Rattle.cw_model.specs.Boards.{problem_of}
use Rattle.cw_table_text.specs.TablesText.{limits_text, tables_text}
use Rattle.cw_emit.specs.Cut.{part}
use Rattle.cw_emit.specs.Woven.{spelling, woven_from, Stands}
use Rattle.cw_commands.specs.declared.outcome.Reply.TheVariants.{Yes, No}
use Rattle.cw_commands.specs.Outcomes.{Due, Told}
use Rattle.cw_consequences.specs.Unrefused.{varied}
use Rattle.cw_consequences.specs.Alike.{AreAlike, refused, woven, refuted}

module _ (p : PlainPolicy) (limit enter split stop : Bool) where
  spelling_same : (source : List ℕ) (seam : ℕ) (kind : MarkKind) → spelling (varied p limit enter split stop p.format) source seam kind ≡ spelling p source seam kind
  spelling_same source seam EntryMark = refl
  spelling_same source seam LabelMark = refl
  spelling_same source seam (OpenMark d) = refl
  spelling_same source seam CloseMark = refl
  spelling_same source seam (CallMark None) = refl
  spelling_same source seam (CallMark (Some x)) = refl

  woven_same : (source : List ℕ) (at : ℕ) (marks : List SeamMark) → woven_from (varied p limit enter split stop p.format) source at marks ≡ woven_from p source at marks
  unfolding woven_from
  woven_same source at [] = refl
  woven_same source at (m ∷ ms) =
      ap₂ (λ (s : List ℕ) (rest : List ℕ). take (m.place - at) (drop at source) ++ (part s ++ rest)) (spelling_same source m.seam m.kind) (woven_same source m.place ms)

  lines_same : (t : Table) → tables_text (varied p limit enter split stop p.format) t ≡ tables_text p t
  unfolding tables_text limits_text
  lines_same t = refl

  pub text_same : (text source : List ℕ) (marks : List SeamMark) (t : Table) → Stands text source marks t (varied p limit enter split stop p.format) → Stands text source marks t p
  text_same text source marks t e = e ∙ ap₂ (λ (lines : List ℕ) (rest : List ℕ). part (codes "\n" ++ lines) ++ rest) (lines_same t) (woven_same source 0 marks)

  -- answers that say the same are one
  pub one_text : (source : List ℕ) (due answer : Due) → AreAlike source p (varied p limit enter split stop p.format) due answer → due ≡ answer
  one_text source due answer (refused cause line) = refl
  one_text source due answer (woven file table text other reads a b) = ap (λ (l : List ℕ). Told Yes l) (a ∙ sym (text_same other source (marks_of (problem_of p source file).plan) table b))
  one_text source due answer (refuted strategy text other a b) = ap (λ (l : List ℕ). Told No l) (a ∙ sym b)
