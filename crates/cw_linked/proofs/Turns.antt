-- Whose turn it is at a call.
use Rattle.std.proofs.Common.{◌≡◌, ℕ, Bool, true, false, Option, Some, refl, ap, ◌∙◌}
use Rattle.std.specs.Prelude.{option_map}
use Rattle.std.proofs.lemmas.Option.{same_Some}
use Rattle.cw_core.specs.declared.ids.PosId.{PosId}
use Rattle.cw_game.specs.declared.spots.Spot.{Spot}
use Rattle.cw_game.specs.Games.{Game}
use Rattle.cw_game.specs.Pairs.{Called, call_in, call_spot}
use Rattle.cw_product.specs.declared.turn.Turn.{Turn}
use Rattle.cw_product.specs.declared.turn.Turn.TheVariants as turn
use Rattle.cw_product.specs.Moves.{pos_id, turn_in}
use Rattle.cw_solve.proofs.Falls.{call_is}
use Rattle.cw_solve.proofs.Turning.{turn_call}

-- the call that stands where a turn is a call
pub turn_calls : (g : Game) (o : Option Spot) (f : ℕ) (split : Bool) (back : PosId) → Some (turn.Call f split back) ≡ option_map (turn_in g) o
    → (call : Called) × (call_in o ≡ Some call) × (call.split ≡ split) × (call.function ≡ f) × (call.back ≡ back.0)
turn_calls g o f split back e = let t = turn_call g o f split back e in by split t.0 t.1
  where
    by : (split : Bool) (seam : ℕ) → o ≡ Some (call_spot split seam f back.0) → (call : Called) × (call_in o ≡ Some call) × (call.split ≡ split) × (call.function ≡ f) × (call.back ≡ back.0)
    by true seam is = (record { seam = seam; function = f; back = back.0; split = true }, ap call_in is, refl, refl, refl)
    by false seam is = (record { seam = seam; function = f; back = back.0; split = false }, ap call_in is, refl, refl, refl)

-- and the turn where a call stands
pub calls_turn : (g : Game) (o : Option Spot) (t : Turn) (call : Called) → Some t ≡ option_map (turn_in g) o → call_in o ≡ Some call → t ≡ turn.Call call.function call.split (pos_id call.back)
calls_turn g o t call is es = same_Some t _ (is ∙ by call.split (call_is o call es))
  where
    by : (split : Bool) → o ≡ Some (call_spot split call.seam call.function call.back) → option_map (turn_in g) o ≡ Some (turn.Call call.function split (pos_id call.back))
    by true e = ap (option_map (turn_in g)) e
    by false e = ap (option_map (turn_in g)) e
