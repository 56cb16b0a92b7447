-- Working definitions: what a value of `Game` keeps.
use Rattle.std.specs.Prelude.{◌≡◌, ℕ, ◌+◌, ◌*◌, ◌<◌, ◌≤◌, Option, Some, None, length, slice_get, nat_lt, Contains, true}
use Rattle.std.specs.List.{list_any}
use Rattle.cw_core.specs.declared.quantity.Quantity.TheVariants.{PositionsTimesStates, Points}
use Rattle.cw_core.specs.Quantities.{limit_of}
use Rattle.cw_rights.specs.declared.capabilities.Primitive.{Primitive}
use Rattle.cw_rights.specs.declared.capabilities.Primitive.TheVariants.{Split}
use Rattle.cw_rights.specs.declared.policy.Policy.{Policy}
use Rattle.cw_rights.specs.Policies.{policy_of, primitives}
use Rattle.cw_game.specs.declared.spots.Spot.{Spot}
use Rattle.cw_game.specs.declared.spots.Spot.TheVariants.{Visit, Asked, Step, Branch, Label, Open, Close, Call, SplitCall, Exit}
use Rattle.cw_game.specs.Games.{Game}
use Rattle.cw_game.specs.Conditions.{has_seam, has_stage}
use Rattle.cw_points.specs.declared.graph.Part.{Part}
use Rattle.cw_points.specs.declared.graph.Graph.{Graph}
use Rattle.cw_positions.specs.declared.layout.Positions.{Positions}
use Rattle.cw_positions.specs.Positions.{base_of, bases}
use Rattle.cw_positions.specs.Seams.{stages_of}
use Rattle.cw_positions.specs.Closed.{LeadsWithin}
use Rattle.cw_states.specs.States.{AreFew, lists_of}
use Rattle.cw_states.specs.Below.{StayBelow}
use Rattle.cw_product.specs.Moves.{IsPosition, IsState}
use Rattle.cw_product.specs.Routes.{IsRoute}
use Rattle.cw_product.specs.Product.{Held, game_of}

-- what follows a primitive that is asked at p: a granted split goes one further on
abbrev pub IsFollowed : Game → ℕ → Primitive → Type 0
IsFollowed g p Split = IsPosition g (p + 2)
IsFollowed g p a = IsPosition g (p + 1)

abbrev pub IsPrimitive : Game → Primitive → Type 0
IsPrimitive g a = Contains (primitives g.policy true) a

abbrev pub IsDescriptor : Held → ℕ → Type 0
IsDescriptor h d = d < length h.states.policy.descriptors.items

abbrev pub IsLabel : Held → ℕ → Type 0
IsLabel h l = l ≤ length h.states.policy.labels.items

-- What stands at p leads to positions, and its primitive, its descriptor and its label are the policy's, or the one label more. A function's
-- number fits its type.
abbrev pub IsFine : Held → ℕ → Spot → Type 0
IsFine h p (Visit j i a) = IsPosition (game_of h) (p + 2)
IsFine h p (Asked j i a) = IsPosition (game_of h) (p + 1) × IsFollowed (game_of h) p a × IsPrimitive (game_of h) a
IsFine h p (Step n) = IsPosition (game_of h) n
IsFine h p (Branch m n) = IsPosition (game_of h) m × IsPosition (game_of h) n
IsFine h p (Label j l n) = IsPosition (game_of h) n × IsLabel h l
IsFine h p (Open j d n) = IsPosition (game_of h) n × IsDescriptor h d
IsFine h p (Close j d n) = IsPosition (game_of h) n × IsDescriptor h d
IsFine h p (Call j f n) = IsPosition (game_of h) n × (f ≤ 65535)
IsFine h p (SplitCall j f n) = IsPosition (game_of h) n × (f ≤ 65535)
IsFine h p (Exit f) = Unit {0}

-- what stands at each position is fine
abbrev pub AreFine : Held → Type 0
AreFine h = (p : ℕ) (s : Spot) → slice_get (game_of h).spots p ≡ Some s → IsFine h p s

-- a function begins and ends at points of the graph
abbrev pub IsPart : Graph → Part → Type 0
IsPart graph part = (part.entry.0 < length graph.nodes.items) × (part.exit.0 < length graph.nodes.items)

-- What is true of the graph of a program that can be run, and of its game.
pub record IsSound (h : Held) : Type 0 where
  pub narrow : length h.graph.nodes.items ≤ limit_of Points
  pub few : length (game_of h).spots ≤ limit_of PositionsTimesStates
  pub pairs : length (game_of h).spots * (game_of h).states.count ≤ limit_of PositionsTimesStates
  pub few_states : AreFew (lists_of h.states)
  pub fine : AreFine h
  pub leads : (p : ℕ) (s : Spot) → slice_get (game_of h).spots p ≡ Some s → LeadsWithin (length (game_of h).spots) (length h.graph.parts.items) p s
  pub routes : (f : ℕ) → f < length h.graph.parts.items → IsRoute (game_of h) f
  pub parts : (f : ℕ) (part : Part) → slice_get h.graph.parts.items f ≡ Some part → IsPart h.graph part
  pub main : h.graph.main < length h.graph.parts.items
  pub points : (p : ℕ) → p < length h.graph.nodes.items → IsPosition (game_of h) (base_of h.graph (policy_of h.states.policy) p)
  pub seams : (j : ℕ) → list_any (has_seam j) (game_of h).spots ≡ nat_lt j (length h.graph.seams.items)
  pub stages : (j i : ℕ) → list_any (has_stage j i) (game_of h).spots ≡ nat_lt i (stages_of h.graph (policy_of h.states.policy) j)
  pub below : StayBelow (game_of h).states

pub record IsKept (h : Held) (policy : Policy) (positions : Positions) : Type 0 where
  pub same_policy : h.states.policy ≡ policy
  pub same_spots : positions.spots.items ≡ (game_of h).spots
  pub same_bases : positions.bases.items ≡ bases h.graph (policy_of h.states.policy)
  pub sound : IsSound h

-- what is given is a position and a state, where it is there
abbrev pub IsWithin : Game → Option (ℕ × ℕ) → Type 0
IsWithin g None = Unit {0}
IsWithin g (Some r) = IsPosition g r.0 × IsState g r.1
