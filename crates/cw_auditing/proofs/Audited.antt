-- The audit of a game is so of its programs.
use Rattle.std.proofs.Common.{◌≡◌, ℕ, Some, ⊎_elim, inl, inr, subst}
use Rattle.cw_model.specs.Boards.{Problem}
use Rattle.cw_game.specs.Games.{Game}
use Rattle.cw_game.specs.Standing.{IsGameOf}
use Rattle.cw_game.proofs.Linking.{linked}
use Rattle.cw_audit_table.specs.Conditions.{EndAlone, IsGoodAudit, IsShown}
use Rattle.cw_audit_table.specs.Tables.{Audit}
use Rattle.cw_audit_table.proofs.Plays.{goes_played, shown_exact}
use Rattle.cw_commands.specs.Outcomes.{Due}
use Rattle.cw_auditing.specs.Auditing.{IsAudited, IsAuditedBy, IsTrueOf}

pub true_of : (p : Problem) (g : Game) (functions : ℕ) (t : Audit) → IsGameOf p g → EndAlone g functions → IsGoodAudit g functions t → IsShown g t → IsTrueOf p t
true_of p g functions t is alone good shown = record {
  verdict = shown_exact p g functions t is alone good shown;
  play = λ T e.
      let s = shown T e in
      let w = goes_played p g is t.moves s.1.0 s.1.1 in
      (w.0, w.1, (linked p g is).is_bad w.0 s.1.0 w.2 s.1.2);
}

pub audited_for : (p : Problem) (g : Game) (functions many : ℕ) (due : Due) → IsGameOf p g → functions ≡ many → IsAuditedBy g functions due → IsAudited p g many due
audited_for p g functions many due is e h =
    subst (λ n. IsAudited p g n due) e (⊎_elim (λ a. inl a) (λ b. inr (⊎_elim (λ a. inl a) (λ d. inr (d.0, d.1, d.2 p is, d.3)) b)) h)
