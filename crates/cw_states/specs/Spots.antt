-- The law: the states are the policy's.
use Rattle.std.specs.Prelude.{ℕ, ◌<◌, List}
use Rattle.cw_rights.specs.Policies.{PlainDescriptor, PlainPolicy}
use Rattle.cw_game.specs.declared.spots.Spot.{Spot}
use Rattle.cw_game.specs.Games.{IsOpenedIn, IsClosedIn, IsLabelIn, AreStates}
use Rattle.cw_game.specs.Reached.{Reached}
use Rattle.cw_states.specs.declared.uses.Uses.{Uses}
use Rattle.cw_states.specs.Rights.{IsVariable, MayClose}
use Rattle.cw_states.specs.States.{Lists, AreLists, label_count, states_of, Means}

-- What stands at these positions is what the source has: variables are opened; what is closed is a variable, or a number that the source
-- closes; a label is the policy's, or the one more where the source has another.
pub record Have (policy : PlainPolicy) (uses : Uses) (spots : List Spot) : Type 0 where
  pub opens : (d : ℕ) → IsOpenedIn spots d → (descriptor : PlainDescriptor) × IsVariable policy d descriptor
  pub closes : (d : ℕ) → IsClosedIn spots d → MayClose policy uses d
  pub labels : (label : ℕ) → IsLabelIn spots label → label < label_count policy uses

abbrev pub StatesAreThePolicys : Type 0
StatesAreThePolicys = (uses : Uses) (v : Lists) (spots : List Spot) → AreLists uses v → Have v.policy uses spots
    → AreStates v.policy spots (states_of v) (Means uses v)

-- the same by the least meaning: what the states' own functions lead to from the start
abbrev pub StatesAreThePolicysAsReached : Type 0
StatesAreThePolicysAsReached = (uses : Uses) (v : Lists) (spots : List Spot) → AreLists uses v → Have v.policy uses spots
    → AreStates v.policy spots (states_of v) (Reached v.policy spots (states_of v))
