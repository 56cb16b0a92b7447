-- The conditions of a row, by who moves there.
use Rattle.std.proofs.Common.{◌≡◌, ℕ, ◌<◌, Bool, true, false, Option, Some, None, option_map, nat_le, length, refl, sym, subst}
use Rattle.std.specs.Prelude.{slice_get}
use Rattle.std.proofs.lemmas.Option.{none-some, same_Some}
use Rattle.std.proofs.lemmas.Bool.{ltb-true}
use Rattle.cw_core.specs.declared.ids.PosId.{PosId}
use Rattle.cw_game.specs.declared.spots.Spot.{Spot}
use Rattle.cw_game.specs.declared.spots.Spot.TheVariants.{Visit, Asked, Step, Branch, Label, Open, Close, Call, SplitCall, Exit}
use Rattle.cw_game.specs.Games.{Game}
use Rattle.cw_game.specs.Conditions.{is_position, is_state}
use Rattle.std.proofs.lemmas.Bool.{and_parts}
use Rattle.cw_positions.specs.Closed.{LeadsWithin}
use Rattle.cw_product.specs.declared.turn.Turn.{Turn}
use Rattle.cw_product.specs.declared.turn.Turn.TheVariants as turn
use Rattle.cw_product.specs.Moves.{pos_id, turn_in}
use Rattle.cw_audit_table.specs.Tables.{PlainRow}
use Rattle.cw_audit_table.specs.Conditions.{is_free, is_pair}
use Rattle.cw_audit_table.proofs.Turns.{function_in, back_in}

-- what a row's pair says
pub record IsPaired (g : Game) (r : PlainRow) : Type 0 where
  pub position : r.pos < length g.spots
  pub state : r.state < g.states.count
  pub free : is_free (slice_get g.spots r.pos) ≡ true

pub paired : (g : Game) (f : ℕ) (r : PlainRow) → is_pair g f r ≡ true → IsPaired g r
paired g f r h =
    let a = and_parts (is_position g r.pos) _ h in
    let b = and_parts (is_state g r.state) _ a.1 in
    let c = and_parts (nat_le (g.entry f) r.pos) _ b.1 in
    let d = and_parts (nat_le r.pos (g.exit f)) _ c.1 in
    record { position = ltb-true r.pos (length g.spots) a.0; state = ltb-true r.state g.states.count b.0; free = d.1 }

module _ (g : Game) where
  -- what is called is there, in either mode
  pub call_within : (size functions p : ℕ) (spot : Option Spot) (h : ℕ) (split : Bool) (back : PosId) → Some (turn.Call h split back) ≡ option_map (turn_in g) spot
      → ((s : Spot) → spot ≡ Some s → LeadsWithin size functions p s) → (h < functions) × (back.0 < size)
  call_within size functions p (Some (Call j f n)) h split back e leads =
      subst (λ (t : Turn). (function_in t < functions) × (back_in t < size)) (sym (same_Some (turn.Call h split back) (turn.Call f false (pos_id n)) e)) (leads (Call j f n) refl)
  call_within size functions p (Some (SplitCall j f n)) h split back e leads =
      subst (λ (t : Turn). (function_in t < functions) × (back_in t < size)) (sym (same_Some (turn.Call h split back) (turn.Call f true (pos_id n)) e)) (leads (SplitCall j f n) refl)
  call_within size functions p (Some (Visit j i a)) h split back e leads = let z = same_Some _ _ e in cc
  call_within size functions p (Some (Asked j i a)) h split back e leads = let z = same_Some _ _ e in cc
  call_within size functions p (Some (Step n)) h split back e leads = let z = same_Some _ _ e in cc
  call_within size functions p (Some (Branch m n)) h split back e leads = let z = same_Some _ _ e in cc
  call_within size functions p (Some (Label j l n)) h split back e leads = let z = same_Some _ _ e in cc
  call_within size functions p (Some (Open j d n)) h split back e leads = let z = same_Some _ _ e in cc
  call_within size functions p (Some (Close j d n)) h split back e leads = let z = same_Some _ _ e in cc
  call_within size functions p (Some (Exit f)) h split back e leads = let z = same_Some _ _ e in cc
  call_within size functions p None h split back e leads = absurd (none-some _ (sym e))
