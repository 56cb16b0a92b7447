-- What is due for `reaudit`, by the bytes of a policy, of a source and of an audit.
use Rattle.std.specs.Prelude.{◌≡◌, ◌⊎◌, ℕ, List, length, Some}
use Rattle.cw_rights.specs.Policies.{PlainPolicy}
use Rattle.cw_syntax.specs.Trees.{File}
use Rattle.cw_model.specs.Boards.{Problem, problem_of}
use Rattle.cw_game.specs.Games.{Game}
use Rattle.cw_game.specs.Standing.{IsGameOf}
use Rattle.cw_audit_table.specs.Plays.{IsVerdict}
use Rattle.cw_audit_table.specs.Tables.{Audit}
use Rattle.cw_audit_table.specs.Conditions.{GroupFault, fault_at, audit_fault, IsGoodAudit, IsShown}
use Rattle.cw_commands.specs.declared.outcome.Reply.TheVariants.{Yes, No}
use Rattle.cw_commands.specs.Outcomes.{Due, Told}
use Rattle.cw_stages.specs.Reading.{AfterReading}
use Rattle.cw_stages.specs.Games.{WhereFits}
use Rattle.cw_stages.specs.Refusals.{yes}
use Rattle.cw_stages.specs.Audits.{told, WithAudit}

-- What fails first: a condition of the table; or, where it meets them, the sixth, that the moves show the distance, told of the number of groups.
abbrev pub IsFirstFault : Game → (functions : ℕ) → Audit → GroupFault → Type 0
IsFirstFault g functions t f =
    (audit_fault g functions t ≡ Some f)
    ⊎ (IsGoodAudit g functions t × (IsShown g t → ⊥) × (f ≡ fault_at (length t.groups) 0 6))

-- The table meets the conditions of the game and its moves show its distance, which is that of the program, or the program meets the policy as it is; or
-- what fails first.
abbrev pub IsReaudited : Problem → Game → (functions : ℕ) → Audit → Due → Type 0
IsReaudited p g functions t due =
    (IsGoodAudit g functions t × IsShown g t × (due ≡ Told Yes yes) × IsVerdict p t.distance)
    ⊎ ((f : GroupFault) × IsFirstFault g functions t f × (due ≡ Told No (told f)))

-- the same for every program of which that is the game
abbrev pub IsReauditedBy : Game → (functions : ℕ) → Audit → Due → Type 0
IsReauditedBy g functions t due =
    (IsGoodAudit g functions t × IsShown g t × (due ≡ Told Yes yes) × ((p : Problem) → IsGameOf p g → IsVerdict p t.distance))
    ⊎ ((f : GroupFault) × IsFirstFault g functions t f × (due ≡ Told No (told f)))

-- That the policy doesn't fit the program, that no game of theirs comes, or what is told of the audit.
abbrev pub AfterAudit : List ℕ → PlainPolicy → File → Audit → Due → Type 0
AfterAudit source whole file t = WhereFits (λ g due. IsReaudited (problem_of whole source file) g (length file.functions) t due) source whole file

-- That the text is no audit's, or what comes behind that.
abbrev pub AfterPair : (source text : List ℕ) → PlainPolicy → File → Due → Type 0
AfterPair source text whole file = WithAudit (AfterAudit source whole file) text

-- The policy and the source are read first.
abbrev pub IsReauditDue : (policy source text : List ℕ) → Due → Type 0
IsReauditDue policy source text = AfterReading (AfterPair source text) policy source
