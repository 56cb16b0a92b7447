-- Working definitions: where grants lead, which is the same wherever a primitive is asked.
use Rattle.std.specs.Prelude.{◌≡◌, ℕ, ◌<◌, List, Option, Some, None, length, option_map, slice_get, IfSome}
use Rattle.cw_core.specs.declared.ids.StateId.{StateId}
use Rattle.cw_certs.specs.declared.moves.Move.TheVariants.{Grant}
use Rattle.cw_rights.specs.declared.capabilities.Primitive.{Primitive}
use Rattle.cw_rights.specs.declared.capabilities.Primitive.TheVariants.{Split}
use Rattle.cw_game.specs.declared.spots.Spot.{Spot}
use Rattle.cw_game.specs.declared.spots.Spot.TheVariants.{Asked}
use Rattle.cw_game.specs.Games.{Game}
use Rattle.cw_product.specs.Moves.{IsState, next_in}
use Rattle.cw_linked.specs.declared.grants.Grants.{Grants}

-- what is asked where this stands
abbrev pub asked_in : Option Spot → Option Primitive
asked_in (Some (Asked j i a)) = Some a
asked_in _ = None

-- how far behind the position at which a primitive is asked a grant leads
abbrev pub leap : Primitive → ℕ
leap Split = 2
leap _ = 1

abbrev pub state_of : Option (ℕ × ℕ) → Option ℕ
state_of to = option_map (λ z. z.1) to

abbrev pub number_of : Option StateId → Option ℕ
number_of next = option_map (λ x. x.0) next

-- the state to which a grant of a primitive leads from a state, wherever it is asked
pub record IsGrant (g : Game) (a : Primitive) (q : ℕ) (next : Option StateId) : Type 0 where
  pub is : number_of next ≡ state_of (next_in g 0 q (Some (Asked 0 0 a)) Grant)
  pub within : IfSome next (λ x. IsState g x.0)

-- each of the first states has its own
abbrev pub AreGrantsTo : Game → Primitive → List (Option StateId) → Type 0
AreGrantsTo g a all = (q : ℕ) (next : Option StateId) → slice_get all q ≡ Some next → IsGrant g a q next

-- and each state
pub record AreGrants (g : Game) (grants : Grants) : Type 0 where
  pub long : length grants.to.items ≡ g.states.count
  pub are : AreGrantsTo g grants.prim grants.to.items

-- of what is asked at this position
pub record AreGrantsAt (g : Game) (p : ℕ) (grants : Grants) : Type 0 where
  pub asked : asked_in (slice_get g.spots p) ≡ Some grants.prim
  pub are : AreGrants g grants

abbrev pub AreAllGrants : Game → List Grants → Type 0
AreAllGrants g all = (k : ℕ) (grants : Grants) → slice_get all k ≡ Some grants → AreGrants g grants

-- the grants of a primitive stand at this number
pub record IsRowOf (all : List Grants) (a : Primitive) (k : ℕ) : Type 0 where
  pub within : k < length all
  pub prim : (grants : Grants) → slice_get all k ≡ Some grants → grants.prim ≡ a
