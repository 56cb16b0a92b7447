-- An audit is read as a file of a command: why one is refused, and what is told of its groups.
use Rattle.std.specs.Prelude.{◌≡◌, ◌⊎◌, ℕ, List, [], ◌∷◌, ◌++◌, codes}
use Rattle.std.specs.Fmt.{decimal}
use Rattle.cw_audit_table.specs.Conditions.{GroupFault}
use Rattle.cw_audit_table.specs.Tables.{Audit}
use Rattle.cw_audit_text.specs.declared.fault.AuditTextFault.TheVariants as fault
use Rattle.cw_audit_text.specs.AuditText.{Spells}
use Rattle.cw_audit_text.specs.Faults.{IsFault}
use Rattle.cw_commands.specs.declared.outcome.Cause.TheVariants.{Grammar}
use Rattle.cw_commands.specs.Outcomes.{Due, Refused}

-- the refusal by the first line at fault: the text of an audit has no other fault
abbrev pub audit_refusal : (line : ℕ) → Due
audit_refusal line = Refused Grammar (codes "audit: line " ++ decimal line)

abbrev pub IsAuditRefusal : (text : List ℕ) → Due → Type 0
IsAuditRefusal text due = (line : ℕ) × IsFault text (fault.Line line) × (due ≡ audit_refusal line)

-- That the text is no audit's, or what comes next for the audit whose text it is.
abbrev pub WithAudit : (Audit → Due → Type 0) → (text : List ℕ) → Due → Type 0
WithAudit Next text due = IsAuditRefusal text due ⊎ ((t : Audit) × Spells text t × Next t due)

-- what is told of the first condition that fails
abbrev pub told : GroupFault → List ℕ
told f = codes "group " ++ decimal f.group ++ (codes " row " ++ decimal f.row) ++ (codes " condition " ++ decimal f.condition) ++ (10 ∷ [])
