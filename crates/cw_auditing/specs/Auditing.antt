-- What is due for `audit`, by the bytes of a policy and of a source.
use Rattle.std.specs.Prelude.{◌≡◌, ◌⊎◌, ℕ, List, length, Option, Some, None}
use Rattle.cw_core.specs.declared.quantity.Quantity.TheVariants.{Rows, AuditMoves}
use Rattle.cw_rights.specs.Policies.{PlainPolicy}
use Rattle.cw_syntax.specs.Trees.{File}
use Rattle.cw_model.specs.Boards.{Problem, problem_of}
use Rattle.cw_game.specs.Games.{Game}
use Rattle.cw_game.specs.Standing.{IsGameOf}
use Rattle.cw_audit_table.specs.Plays.{IsVerdict, IsViolating}
use Rattle.cw_audit_table.specs.Tables.{Audit}
use Rattle.cw_audit.specs.Audits.{IsAuditOf, AreManyRows, AreManyMoves}
use Rattle.cw_audit_text.specs.AuditText.{audit_text}
use Rattle.cw_commands.specs.declared.outcome.Reply.{Reply}
use Rattle.cw_commands.specs.declared.outcome.Reply.TheVariants.{Yes, No}
use Rattle.cw_commands.specs.Outcomes.{Due, Told}
use Rattle.cw_stages.specs.Reading.{AfterReading}
use Rattle.cw_stages.specs.Games.{WhereFits}
use Rattle.cw_stages.specs.Refusals.{over}

-- What it says is so of the program: no play in which the weaver always skips violates, or its moves are such a play, and none is shorter.
pub record IsTrueOf (p : Problem) (t : Audit) : Type 0 where
  pub verdict : IsVerdict p t.distance
  pub play : (T : ℕ) → t.distance ≡ Some T → IsViolating p t.moves

-- status 0 where nothing violates, 1 where something does
abbrev pub reply_of : Option ℕ → Reply
reply_of None = Yes
reply_of (Some T) = No

abbrev pub told : Audit → Due
told t = Told (reply_of t.distance) (audit_text t)

-- The rows of the game's table are too many, or the moves to a violation are; or the audit is told.
abbrev pub IsAudited : Problem → Game → (functions : ℕ) → Due → Type 0
IsAudited p g functions due =
    (AreManyRows g × (due ≡ over Rows))
    ⊎ ((AreManyMoves g × (due ≡ over AuditMoves))
    ⊎ ((t : Audit) × IsAuditOf g functions t × IsTrueOf p t × (due ≡ told t)))

-- the same for every program of which that is the game
abbrev pub IsAuditedBy : Game → (functions : ℕ) → Due → Type 0
IsAuditedBy g functions due =
    (AreManyRows g × (due ≡ over Rows))
    ⊎ ((AreManyMoves g × (due ≡ over AuditMoves))
    ⊎ ((t : Audit) × IsAuditOf g functions t × ((p : Problem) → IsGameOf p g → IsTrueOf p t) × (due ≡ told t)))

-- That the policy doesn't fit the program, that no game of theirs comes, or the audit.
abbrev pub AfterPair : List ℕ → PlainPolicy → File → Due → Type 0
AfterPair source whole file = WhereFits (λ g due. IsAudited (problem_of whole source file) g (length file.functions) due) source whole file

-- The policy and the source are read first.
abbrev pub IsAuditDue : (policy source : List ℕ) → Due → Type 0
IsAuditDue policy source = AfterReading (AfterPair source) policy source
