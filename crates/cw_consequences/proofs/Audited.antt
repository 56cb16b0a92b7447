-- For a policy, a source and an audit one answer of `reaudit` is due.
use Rattle.std.proofs.Common.{◌≡◌, inl, inr, ◌⊎◌, ℕ, List, Result, Ok, Err, sym, ap, ◌∙◌, subst}
use Rattle.std.proofs.lemmas.Option.{none-some, same_Some}
use Rattle.cw_model.specs.Boards.{Problem, problem_of}
use Rattle.cw_game.specs.Games.{Game}
use Rattle.cw_audit_table.specs.Tables.{Audit}
use Rattle.cw_audit_table.specs.Conditions.{GroupFault, IsGoodAudit, IsShown}
use Rattle.cw_audit_text.specs.declared.fault.AuditTextFault.{AuditTextFault}
use Rattle.cw_audit_text.specs.declared.fault.AuditTextFault.TheVariants as fault
use Rattle.cw_audit_text.proofs.OneAnswer.{one_answer as one_audit_answer}
use Rattle.cw_commands.specs.declared.outcome.Reply.TheVariants.{No}
use Rattle.cw_commands.specs.Outcomes.{Due, Told}
use Rattle.cw_stages.specs.Audits.{audit_refusal, told, WithAudit}
use Rattle.cw_syntax.specs.Trees.{File}
use Rattle.cw_rights.specs.Policies.{PlainPolicy}
use Rattle.cw_auditing.specs.Reauditing.{AfterAudit, AfterPair, IsFirstFault, IsReaudited, IsReauditDue}
use Rattle.cw_consequences.proofs.Singles.{IsOne, one_reading, one_where_fits}
use Rattle.std.specs.Prelude.{length}

module _ (Next : Audit → Due → Type 0) (one : (t : Audit) → IsOne (Next t)) (text : List ℕ) where
  one_audit : IsOne (WithAudit Next text)
  one_audit due answer (inl (m, is, a)) (inl (n, other, b)) =
      let same : ◌≡◌ {A = Result Audit AuditTextFault} (Err (fault.Line m)) (Err (fault.Line n)) = one_audit_answer text (Err (fault.Line m)) (Err (fault.Line n)) is other in
      let lines : m ≡ n = cc in
      a ∙ ap audit_refusal lines ∙ sym b
  one_audit due answer (inl (m, is, a)) (inr (t, spells, after)) =
      let never : ◌≡◌ {A = Result Audit AuditTextFault} (Err (fault.Line m)) (Ok t) = one_audit_answer text (Err (fault.Line m)) (Ok t) is spells in absurd cc
  one_audit due answer (inr (t, spells, after)) (inl (m, is, b)) =
      let never : ◌≡◌ {A = Result Audit AuditTextFault} (Ok t) (Err (fault.Line m)) = one_audit_answer text (Ok t) (Err (fault.Line m)) spells is in absurd cc
  one_audit due answer (inr (t, spells, after)) (inr (u, other, behind)) =
      let same : ◌≡◌ {A = Result Audit AuditTextFault} (Ok u) (Ok t) = one_audit_answer text (Ok u) (Ok t) other spells in
      let audits : u ≡ t = cc in
      one t due answer after (subst (λ (z : Audit). Next z answer) audits behind)

module _ (g : Game) (functions : ℕ) (t : Audit) where
  never : IsGoodAudit g functions t → IsShown g t → (f : GroupFault) → IsFirstFault g functions t f → ⊥
  never good shown f (inl fails) = none-some f (sym good ∙ fails)
  never good shown f (inr (other, unshown, e)) = unshown shown

  one_first : (f k : GroupFault) → IsFirstFault g functions t f → IsFirstFault g functions t k → f ≡ k
  one_first f k (inl a) (inl b) = same_Some f k (sym a ∙ b)
  one_first f k (inl a) (inr (good, unshown, e)) = absurd (none-some f (sym good ∙ a))
  one_first f k (inr (good, unshown, e)) (inl b) = absurd (none-some k (sym good ∙ b))
  one_first f k (inr (good, unshown, e)) (inr (other, not, d)) = e ∙ sym d

  one_reaudited : (p : Problem) → IsOne (IsReaudited p g functions t)
  one_reaudited p due answer (inl (good, shown, a, is)) (inl (other, shows, b, of)) = a ∙ sym b
  one_reaudited p due answer (inl (good, shown, a, is)) (inr (f, first, b)) = absurd (never good shown f first)
  one_reaudited p due answer (inr (f, first, a)) (inl (good, shown, b, is)) = absurd (never good shown f first)
  one_reaudited p due answer (inr (f, first, a)) (inr (k, other, b)) = a ∙ ap (λ (z : GroupFault). Told No (told z)) (one_first f k first other) ∙ sym b

pub one_reaudit : (policy source text : List ℕ) → IsOne (IsReauditDue policy source text)
one_reaudit policy source text =
    one_reading policy source (AfterPair source text)
    (λ p file. one_audit (AfterAudit source p file)
    (λ t. one_where_fits source p file (λ g due. IsReaudited (problem_of p source file) g (length file.functions) t due)
    (λ g of. one_reaudited g (length file.functions) t (problem_of p source file))) text)
