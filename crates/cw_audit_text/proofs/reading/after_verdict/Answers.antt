use Rattle.std.proofs.Common.{◌≡◌, ℕ, List, Option, Some, None}
use Rattle.cw_audit_text.specs.declared.text_line.TextLine.{TextLine}
use Rattle.cw_audit_text.specs.declared.text_line.TextLine.TheVariants.{Meets, Violates}
use Rattle.cw_audit_text.specs.Faults.{StartsWith, verdict_of}
use Rattle.cw_audit_text.proofs.Lines.{one_start}
use Rattle.cw_audit_text.proofs.reading.after_verdict.Goals as goal

no_verdict : (text rest : List ℕ) (l : TextLine) → StartsWith text l rest → (l ≡ Meets → ⊥) → ((T : ℕ) → l ≡ Violates T → ⊥) → (distance : Option ℕ) (more : List ℕ)
    → StartsWith text (verdict_of distance) more → ⊥
no_verdict text rest l s h k None more t = h (one_start text rest more l Meets s t).0
no_verdict text rest l s h k (Some T) more t = k T (one_start text rest more l (Violates T) s t).0

pub returns-in_default-line : goal.returns-in_default-line
returns-in_default-line c = record {
  some = tt;
  none = no_verdict c.args.text.now c.in-Some.rest.now c.in-Some.line c.in-Some.ensures.some c.in_default-line.not-Meets c.in_default-line.not-Violates;
}
