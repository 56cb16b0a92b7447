-- Where a plain call stands, by whose turn it is.
use Rattle.std.proofs.Common.{◌≡◌, ℕ, ◌<◌, Bool, true, false, Option, Some, None, option_map, sym, ap}
use Rattle.std.proofs.lemmas.Option.{same_Some}
use Rattle.cw_core.specs.declared.ids.PosId.{PosId}
use Rattle.cw_game.specs.declared.spots.Spot.{Spot}
use Rattle.cw_game.specs.declared.spots.Spot.TheVariants.{Visit, Asked, Step, Branch, Label, Open, Close, Call, SplitCall, Exit}
use Rattle.cw_game.specs.Games.{Game}
use Rattle.cw_positions.specs.Closed.{LeadsWithin}
use Rattle.cw_product.specs.declared.turn.Turn.{Turn}
use Rattle.cw_product.specs.declared.turn.Turn.TheVariants as turn
use Rattle.cw_product.specs.Moves.{pos_id, turn_in}
use Rattle.cw_audit_table.specs.Conditions.{is_free}

abbrev pub function_in : Turn → ℕ
function_in (turn.Call f split back) = f
function_in _ = 0

abbrev pub back_in : Turn → ℕ
back_in (turn.Call f split back) = back.0
back_in _ = 0

module _ (g : Game) where
  pub call_turn : (spot : Option Spot) (h : ℕ) (split : Bool) (back : PosId) → Some (turn.Call h split back) ≡ option_map (turn_in g) spot → is_free spot ≡ true
      → (j : ℕ) × (spot ≡ Some (Call j h back.0))
  call_turn (Some (Call j f n)) h split back e free =
      let same = same_Some (turn.Call h split back) (turn.Call f false (pos_id n)) e in
      (j, ap (λ (t : Turn). Some (Call j (function_in t) (back_in t))) (sym same))
  call_turn (Some (Step n)) h split back e free = let z = same_Some _ _ e in cc
  call_turn (Some (Branch m n)) h split back e free = let z = same_Some _ _ e in cc
  call_turn (Some (Label j l n)) h split back e free = let z = same_Some _ _ e in cc
  call_turn (Some (Open j d n)) h split back e free = let z = same_Some _ _ e in cc
  call_turn (Some (Close j d n)) h split back e free = let z = same_Some _ _ e in cc
  call_turn (Some (Exit f)) h split back e free = let z = same_Some _ _ e in cc
  call_turn _ h split back e free = cc

  -- what is called is there
  pub call_leads : (size functions p : ℕ) (spot : Option Spot) (h : ℕ) (split : Bool) (back : PosId) → Some (turn.Call h split back) ≡ option_map (turn_in g) spot → is_free spot ≡ true
      → ((s : Spot) → spot ≡ Some s → LeadsWithin size functions p s) → (h < functions) × (back.0 < size)
  call_leads size functions p spot h split back e free leads = let c = call_turn spot h split back e free in leads (Call c.0 h back.0) c.1
