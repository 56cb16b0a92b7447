-- Where a position stands in the program.
use Rattle.std.specs.Prelude.{ℕ, ◌+◌, ◌<◌, ◌≤◌, Bool, true, false, Option, Some, None, length}
use Rattle.cw_rights.specs.Policies.{policy_of}
use Rattle.cw_game.specs.declared.spots.Spot.{Spot}
use Rattle.cw_game.specs.declared.spots.Spot.TheVariants.{Visit, Asked, SplitCall}
use Rattle.cw_positions.specs.Positions.{base_of}
use Rattle.cw_product.specs.Product.{Held}

-- the position p is one of those of the point n: they begin at or before it, and those of the next point behind it
pub record IsPointOf (h : Held) (p n : ℕ) : Type 0 where
  pub there : n < length h.graph.nodes.items
  pub begun : base_of h.graph (policy_of h.states.policy) n ≤ p
  pub before : p < base_of h.graph (policy_of h.states.policy) (n + 1)

-- the stage of a visit, where a primitive is skipped or tried or is asked
abbrev pub stage_in : Spot → Option ℕ
stage_in (Visit j i a) = Some i
stage_in (Asked j i a) = Some i
stage_in _ = None

abbrev pub is_asked_in : Spot → Bool
is_asked_in (Asked j i a) = true
is_asked_in _ = false

-- the free position of a call in a process of its own
abbrev pub is_split_in : Spot → Bool
is_split_in (SplitCall j f n) = true
is_split_in _ = false
