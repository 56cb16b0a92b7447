-- What follows of what is due for `audit`.
use Rattle.std.specs.Prelude.{◌≡◌, ◌↔◌, ℕ, List}
use Rattle.cw_rights.specs.Policies.{PlainPolicy}
use Rattle.cw_syntax.specs.Marks.{marks_of}
use Rattle.cw_syntax.specs.Trees.{File}
use Rattle.cw_certs.specs.Tables.{Table}
use Rattle.cw_model.specs.Boards.{problem_of}
use Rattle.cw_audit_table.specs.Tables.{Audit}
use Rattle.cw_audit_text.specs.AuditText.{Spells as AuditSpells}
use Rattle.cw_audit_laws.specs.Ruling.{HaveSameRules}
use Rattle.cw_audit_laws.specs.Trying.{NeverTries}
use Rattle.cw_policy.specs.Answer.{Spells}
use Rattle.cw_emit.specs.Woven.{Stands}
use Rattle.cw_commands.specs.declared.outcome.Reply.{Reply}
use Rattle.cw_commands.specs.declared.outcome.Reply.TheVariants.{Yes, No}
use Rattle.cw_commands.specs.Outcomes.{Told}
use Rattle.cw_stages.specs.Reading.{AreRead}
use Rattle.cw_stages.specs.Refusals.{yes}
use Rattle.cw_auditing.specs.Auditing.{IsAuditDue}
use Rattle.cw_auditing.specs.Reauditing.{IsReauditDue}
use Rattle.cw_cli.specs.Weaving.{IsWeaveDue}
use Rattle.cw_cli.specs.Agreeing.{IsOnly}

-- Where an audit is due for a policy and a source, `yes` alone is due for them and that audit.
abbrev pub AuditIsAccepted : Type 0
AuditIsAccepted = (policy source text : List ℕ) (reply : Reply) → IsAuditDue policy source (Told reply text) → IsOnly (IsReauditDue policy source text) (Told Yes yes)

-- The woven text stands for a table with which no woven run tries anything exactly where the answer of `audit` is that the source meets the policy.
pub record TellsWhatIsTried (policy source woven : List ℕ) (reply : Reply) : Type 0 where
  pub whole : PlainPolicy
  pub file : File
  pub table : Table
  pub are : AreRead policy source whole file
  pub stands : Stands woven source (marks_of (problem_of whole source file).plan) table whole
  pub tried : (reply ≡ Yes) ↔ NeverTries (problem_of whole source file) table

-- Where `weave` is due to write a woven text and `audit` an audit, the audit tells whether anything is tried.
abbrev pub AuditTellsWhatIsTried : Type 0
AuditTellsWhatIsTried = (policy source woven text : List ℕ) (reply : Reply) → IsWeaveDue policy source (Told Yes woven) → IsAuditDue policy source (Told reply text)
    → TellsWhatIsTried policy source woven reply

-- Where it is due to write a strategy, an audit is due to say that the source violates the policy.
abbrev pub WhatIsRefutedViolates : Type 0
WhatIsRefutedViolates = (policy source strategy text : List ℕ) (reply : Reply) → IsWeaveDue policy source (Told No strategy) → IsAuditDue policy source (Told reply text) → reply ≡ No

-- Under policies with the same descriptors, labels and rules audits have one status and one distance, whatever may be limited, split, refused or detached.
abbrev pub AuditsSayTheSame : Type 0
AuditsSayTheSame = (policy other source text answer : List ℕ) (reply again : Reply) (x y : PlainPolicy) → Spells policy x → Spells other y → HaveSameRules x y
    → IsAuditDue policy source (Told reply text) → IsAuditDue other source (Told again answer)
    → (reply ≡ again) × ((t u : Audit) → AuditSpells text t → AuditSpells answer u → t.distance ≡ u.distance)

-- the same in all but their moves
pub record AreButMoves (t u : Audit) : Type 0 where
  pub states : t.states ≡ u.states
  pub distance : t.distance ≡ u.distance
  pub groups : t.groups ≡ u.groups

-- Of two audits that are due for a policy and a source only the moves may differ.
abbrev pub AuditsDifferInMoves : Type 0
AuditsDifferInMoves = (policy source text answer : List ℕ) (reply again : Reply) → IsAuditDue policy source (Told reply text) → IsAuditDue policy source (Told again answer)
    → (reply ≡ again) × ((t u : Audit) → AuditSpells text t → AuditSpells answer u → AreButMoves t u)
