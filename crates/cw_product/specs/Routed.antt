-- What is asked of a game: its functions keep to their own positions, and its states are states wherever a position leads.
use Rattle.std.specs.Prelude.{◌≡◌, ℕ, ◌+◌, ◌*◌, ◌<◌, ◌≤◌, List, [], ◌∷◌, Option, Some, None, slice_get, length, Contains}
use Rattle.cw_core.specs.Quantities.{limit_in, limit_of}
use Rattle.cw_core.specs.declared.quantity.Quantity.TheVariants.{PositionsTimesStates, ProductStates}
use Rattle.cw_rights.specs.declared.capabilities.Primitive.TheVariants.{Split}
use Rattle.cw_game.specs.declared.spots.Spot.{Spot}
use Rattle.cw_game.specs.declared.spots.Spot.TheVariants.{Visit, Asked, Step, Branch, Label, Open, Close, Call, SplitCall, Exit}
use Rattle.cw_game.specs.Games.{Game}
use Rattle.cw_game.specs.Pairs.{Called, call_in}
use Rattle.cw_game.specs.Staying.{AreClosed}

-- a position of the function: its positions are those from where it begins to where it ends
abbrev pub IsOf : Game → ℕ → ℕ → Type 0
IsOf g function p = (g.entry function ≤ p) × (p ≤ g.exit function)

abbrev pub IsState : Game → ℕ → Type 0
IsState g q = q < g.states.count

-- the positions of the same function that a position leads to: of a call, where it returns
abbrev pub targets : ℕ → Option Spot → List ℕ
targets p (Some (Visit j i a)) = (p + 2) ∷ (p + 1) ∷ []
targets p (Some (Asked j i Split)) = (p + 2) ∷ (p + 1) ∷ []
targets p (Some (Asked j i a)) = (p + 1) ∷ []
targets p (Some (Step n)) = n ∷ []
targets p (Some (Branch m n)) = m ∷ n ∷ []
targets p (Some (Label j l n)) = n ∷ []
targets p (Some (Open j d n)) = n ∷ []
targets p (Some (Close j d n)) = n ∷ []
targets p (Some (Call j f n)) = n ∷ []
targets p (Some (SplitCall j f n)) = n ∷ []
targets p (Some (Exit f)) = []
targets p None = []

-- a function with this number is there, and has a position
pub record IsThere (g : Game) (functions f : ℕ) : Type 0 where
  pub below : f < functions
  pub begins : g.entry f ≤ g.exit f
  pub ends : g.exit f < length g.spots

-- A game is within the limits, and its moves stay within functions that are there.
pub record AreRouted (g : Game) (functions : ℕ) : Type 0 where
  pub some : 0 < g.states.count
  pub few : g.states.count ≤ limit_in 2 ProductStates
  pub short : length g.spots ≤ limit_of PositionsTimesStates
  pub pairs : length g.spots * g.states.count ≤ limit_of PositionsTimesStates
  pub closed : AreClosed g (IsState g)
  pub stays : (f p r : ℕ) → f < functions → IsOf g f p → Contains (targets p (slice_get g.spots p)) r → IsOf g f r
  pub main : IsThere g functions g.main
  pub called : (p : ℕ) (call : Called) → call_in (slice_get g.spots p) ≡ Some call → IsThere g functions call.function
