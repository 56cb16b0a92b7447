-- Working definitions: positions for which nothing waits but what leads there in the same state.
use Rattle.std.specs.Prelude.{◌≡◌, ℕ, ◌<◌, List, Bool, true, false, Some, length, slice_get, slice_index_or}
use Rattle.cw_game.specs.Games.{Game}
use Rattle.cw_game.specs.Pairs.{Called, call_in}
use Rattle.cw_linked.specs.Steps.{Leads}
use Rattle.cw_linked.specs.Waiting.{keeps_state}

-- no pair leads there that may change the state, no call returns there, and none of so many functions begins there
pub record IsPlain (g : Game) (functions r : ℕ) : Type 0 where
  pub keeps : (p q x : ℕ) → p < length g.spots → q < g.states.count → Leads g p q r x → keeps_state (slice_get g.spots p) ≡ true
  pub unreturned : (p : ℕ) (call : Called) → p < length g.spots → call_in (slice_get g.spots p) ≡ Some call → call.back ≡ r → ⊥
  pub unentered : (f : ℕ) → f < functions → g.entry f ≡ r → ⊥

-- of so many positions those that are flagged are plain
pub record ArePlain (g : Game) (functions positions : ℕ) (plain : List Bool) : Type 0 where
  pub long : length plain ≡ positions
  pub are : (r : ℕ) → slice_index_or plain r false ≡ true → IsPlain g functions r
