-- What a visited row leads to is noted, but for what is behind returns.
use Rattle.std.proofs.Common.{◌≡◌, ℕ, ◌+◌, ◌∙◌, ◌≤◌, true, false, Option, Some, sym, ap, subst}
use Rattle.std.specs.Prelude.{slice_get}
use Rattle.std.proofs.lemmas.Option.{same_Some}
use Rattle.cw_lemmas.proofs.Truths.{not_both}
use Rattle.cw_certs.specs.declared.moves.Move.{Move}
use Rattle.cw_game.specs.declared.spots.Spot.{Spot}
use Rattle.cw_game.specs.declared.spots.Spot.TheVariants.{Call}
use Rattle.cw_product.specs.Product.{Held}
use Rattle.cw_audit_store.specs.declared.row_key.RowKey.{RowKey}
use Rattle.cw_audit_store.specs.declared.row_key.Row.{Row}
use Rattle.cw_audit_table.specs.Runs.{cut, is_step}
use Rattle.cw_audit_table.specs.Conditions.{is_inner}
use Rattle.cw_audit_visits.specs.declared.met.Met.{Met}
use Rattle.cw_audit_visits.specs.declared.met.Calling.{Calling}
use Rattle.cw_audit_visits.specs.declared.under_way.Search.{Search}
use Rattle.cw_audit_visits.specs.Searching.{AreLeadsNoted, AreLeadsNotedBy, IsCallOf, IsCallNear, IsGroupNear, IsNoCall, IsStepNoted, IsThere, IsUnknown, entrance, reach_of, spot_at}
use Rattle.cw_audit_visits.proofs.Stepping.{not_call}

abbrev callee_in : Option Spot → ℕ
callee_in (Some (Call j f k)) = f
callee_in _ = 0

module _ (h : Held) (s : Search) (key number : ℕ) where
  -- no row has the number
  pub leads_unknown : IsUnknown s number → AreLeadsNotedBy h s key number
  leads_unknown none = λ at row r e er low. absurd (none at row r e er)

  module _ (met : Met) (entry : slice_get s.store.rows.entries number ≡ Some (met.row_key, met.row)) (there : IsThere s met) where
    -- it is the row that is met
    of_met : (key ≤ met.reach + met.row.inside → AreLeadsNoted h s met.row_key met.row met.reach) → AreLeadsNotedBy h s key number
    of_met noted = λ at row r e er low.
        let same = same_Some (met.row_key, met.row) (at, row) (sym entry ∙ e) in
        subst (λ (p : RowKey × Row). reach_of s p.0 ≡ Some r → key ≤ r + p.1.inside → AreLeadsNoted h s p.0 p.1 r) same
        (λ known. subst (λ (r : ℕ). key ≤ r + met.row.inside → AreLeadsNoted h s met.row_key met.row r) (same_Some met.reach r (sym there.reach ∙ known)) noted) er low

    pub leads_within : is_inner (spot_at h met.row_key) ≡ true → ((by : Move) → is_step by ≡ true → IsStepNoted h s met.row_key met.row.inside by) → AreLeadsNotedBy h s key number
    leads_within inner moves = of_met (λ low. record {
      moves = λ i by step. moves by step;
      callee = λ f k call. absurd (not_call (spot_at h met.row_key) inner call.0 f k call.1);
    })

    module _ (outer : is_inner (spot_at h met.row_key) ≡ false) where
      pub leads_end : IsNoCall h met.row_key → AreLeadsNotedBy h s key number
      leads_end none = of_met (λ low. record {
        moves = λ i by step. absurd (not_both (is_inner (spot_at h met.row_key)) i outer);
        callee = λ f k call. absurd (none call.0 f k call.1);
      })

      pub leads_call : (call : Calling) → call.met ≡ met → IsCallOf h met.row_key call.callee call.back.0 → IsCallNear s call → AreLeadsNotedBy h s key number
      leads_call call is of near = of_met (λ low. record {
        moves = λ i by step. absurd (not_both (is_inner (spot_at h met.row_key)) i outer);
        callee = λ f k at.
            subst (λ (f : ℕ). IsGroupNear s (entrance f met.row_key.state.0) (cut (met.reach + met.row.inside + 1))) (ap callee_in (sym of.call.1 ∙ at.1))
            (subst (λ (m : Met). IsGroupNear s (entrance call.callee m.row_key.state.0) (cut (m.reach + m.row.inside + 1))) is near);
      })
