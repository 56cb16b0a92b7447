-- An audit doesn't see what can be refused, nor what is done after a refusal.
use Rattle.std.specs.Prelude.{◌↔◌, ℕ, Option}
use Rattle.cw_rights.specs.Policies.{PlainPolicy}
use Rattle.cw_game.specs.Games.{Game}
use Rattle.cw_audit_table.specs.Runs.{IsHit, IsShortest}
use Rattle.cw_audit_table.specs.Stated.{IsStated}
use Rattle.cw_audit_table.specs.Tables.{Audit}

-- The same positions and states, whatever else the policy says: which primitives can be refused, and what is done after a refusal.
abbrev pub ruled_by : Game → PlainPolicy → Game
ruled_by g policy = record {
  spots = g.spots;
  entry = g.entry;
  exit = g.exit;
  main = g.main;
  policy = policy;
  states = g.states;
}

-- The same runs come to a bad pair, so the distance is the same, and the table that is the one's is the other's.
pub record AreAuditedAlike (g h : Game) : Type 0 where
  pub hits : (n : ℕ) → IsHit g n ↔ IsHit h n
  pub distance : (D : Option ℕ) → IsShortest g D ↔ IsShortest h D
  pub table : (t : Audit) → IsStated g t ↔ IsStated h t

abbrev pub AuditsSeeNoRefusals : Type 0
AuditsSeeNoRefusals = (g : Game) (policy : PlainPolicy) → AreAuditedAlike g (ruled_by g policy)
