-- What fails first of the whole table, part by part.
use Rattle.std.proofs.Common.{◌≡◌, ℕ, ◌<◌, List, [], ◌∷◌, ◌++◌, Bool, true, cond, Some, None, is_some, length, nat_eq, ap, ◌∙◌}
use Rattle.std.specs.List.{enumerate_from}
use Rattle.cw_game.specs.Games.{Game}
use Rattle.cw_game.specs.Conditions.{first_failing}
use Rattle.cw_game.proofs.Failing.{append_none, append_some}
use Rattle.cw_audit_table.specs.Tables.{Audit, group_at}
use Rattle.cw_audit_table.specs.Conditions.{GroupFault, fault_at, ranges, group_faults, audit_fault, IsGoodAudit}
use Rattle.cw_audit_table.proofs.Plays.{good_hold}
use Rattle.cw_product.specs.Routes.{IsRoute}
use Rattle.cw_audit_check.specs.Checks.{Bounds}

module _ (g : Game) (functions : ℕ) (t : Audit) (states : nat_eq t.states g.states.count ≡ true) where
  abbrev R : List (GroupFault × Bool)
  R = ranges g functions None (enumerate_from 0 t.groups)

  abbrev G : List (GroupFault × Bool)
  G = group_faults g t (enumerate_from 0 t.groups)

  abbrev L : List (GroupFault × Bool)
  L = (fault_at (length t.groups) 0 2, is_some (group_at t.groups g.main g.states.start)) ∷ []

  first : audit_fault g functions t ≡ first_failing (R ++ G ++ L)
  first = ap (λ b. cond b (first_failing (R ++ G ++ L)) (Some (fault_at 0 0 1))) states

  pub in_ranges : (f : GroupFault) → first_failing R ≡ Some f → audit_fault g functions t ≡ Some f
  in_ranges f h = first ∙ append_some (R ++ G) L f (append_some R G f h)

  pub in_groups : (f : GroupFault) → first_failing R ≡ None → first_failing G ≡ Some f → audit_fault g functions t ≡ Some f
  in_groups f r h = first ∙ append_some (R ++ G) L f (append_none R G r ∙ h)

  pub in_main : first_failing R ≡ None → first_failing G ≡ None → (b : Bool) → is_some (group_at t.groups g.main g.states.start) ≡ b
      → audit_fault g functions t ≡ cond b None (Some (fault_at (length t.groups) 0 2))
  in_main r h b e = first ∙ append_none (R ++ G) L (append_none R G r ∙ h) ∙ ap (λ b. cond b None (Some (fault_at (length t.groups) 0 2))) e

-- An exit stands at the last position of each function alone, so a good table bounds each play.
pub bounds : (g : Game) (functions : ℕ) (t : Audit) → ((f : ℕ) → f < functions → IsRoute g f) → IsGoodAudit g functions t → Bounds g t
bounds g functions t routes good = λ p game ms v. good_hold p g functions t game (λ f pos k lt low high e. (routes f lt).alone pos k (low, high) e) good ms v
