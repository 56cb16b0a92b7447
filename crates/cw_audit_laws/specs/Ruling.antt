-- What an audit sees of a policy: its descriptors, its labels and its rules.
use Rattle.std.specs.Prelude.{◌≡◌, ◌↔◌, ℕ, List, Option}
use Rattle.cw_rights.specs.Policies.{PlainPolicy}
use Rattle.cw_certs.specs.declared.moves.Move.{Move}
use Rattle.cw_syntax.specs.Trees.{File}
use Rattle.cw_model.specs.Boards.{problem_of}
use Rattle.cw_audit_table.specs.Plays.{IsVerdict, IsViolating}

-- The same descriptors, labels and rules, whatever else the policies say: the limits that may be set, which calls run in processes of their own, what can be refused
-- and what is done then, the format, and the functions that are detached.
pub record HaveSameRules (x y : PlainPolicy) : Type 0 where
  pub descriptors : x.descriptors ≡ y.descriptors
  pub labels : x.labels ≡ y.labels
  pub rules : x.rules ≡ y.rules

-- A source has the same shortest ways to a violation under both: the same moves are those of a play to one, so the same distance is the least, or there is none.
pub record AreViolatedAlike (x y : PlainPolicy) (source : List ℕ) (file : File) : Type 0 where
  pub plays : (ms : List Move) → IsViolating (problem_of x source file) ms ↔ IsViolating (problem_of y source file) ms
  pub verdicts : (D : Option ℕ) → IsVerdict (problem_of x source file) D ↔ IsVerdict (problem_of y source file) D

abbrev pub AuditsSeeRulesAlone : Type 0
AuditsSeeRulesAlone = (x y : PlainPolicy) (source : List ℕ) (file : File) → HaveSameRules x y → AreViolatedAlike x y source file
