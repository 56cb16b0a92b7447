-- The positions of a function: it begins at one and ends at another, and each of those between leads to such ones.
use Rattle.std.specs.Prelude.{◌≡◌, ℕ, ◌+◌, ◌<◌, ◌≤◌, Some, length, slice_get}
use Rattle.cw_rights.specs.declared.capabilities.Primitive.TheVariants.{Split}
use Rattle.cw_game.specs.declared.spots.Spot.{Spot}
use Rattle.cw_game.specs.declared.spots.Spot.TheVariants.{Visit, Asked, Step, Branch, Label, Open, Close, Call, SplitCall, Exit}
use Rattle.cw_game.specs.Games.{Game}

abbrev pub IsBetween : (low high n : ℕ) → Type 0
IsBetween low high n = (low ≤ n) × (n ≤ high)

-- What stands at p leads to positions from `low` to `high`: a visit to what is asked and past it, what is asked behind it, a granted split one
-- further on; a call, where it returns.
abbrev pub LeadsBetween : (low high p : ℕ) → Spot → Type 0
LeadsBetween low high p (Visit j i a) = p + 2 ≤ high
LeadsBetween low high p (Asked j i Split) = p + 2 ≤ high
LeadsBetween low high p (Asked j i a) = p + 1 ≤ high
LeadsBetween low high p (Step n) = IsBetween low high n
LeadsBetween low high p (Branch m n) = IsBetween low high m × IsBetween low high n
LeadsBetween low high p (Label j l n) = IsBetween low high n
LeadsBetween low high p (Open j d n) = IsBetween low high n
LeadsBetween low high p (Close j d n) = IsBetween low high n
LeadsBetween low high p (Call j f n) = IsBetween low high n
LeadsBetween low high p (SplitCall j f n) = IsBetween low high n
LeadsBetween low high p (Exit f) = Unit {0}

-- The function begins and ends at positions, and those from the one to the other lead to one another; an exit stands at the last alone.
pub record IsRoute (g : Game) (f : ℕ) : Type 0 where
  pub begins : g.entry f ≤ g.exit f
  pub ends : g.exit f < length g.spots
  pub stays : (p : ℕ) (s : Spot) → IsBetween (g.entry f) (g.exit f) p → slice_get g.spots p ≡ Some s → LeadsBetween (g.entry f) (g.exit f) p s
  pub alone : (p k : ℕ) → IsBetween (g.entry f) (g.exit f) p → slice_get g.spots p ≡ Some (Exit k) → p ≡ g.exit f
