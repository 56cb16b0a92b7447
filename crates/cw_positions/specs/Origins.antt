-- What stands at a position is of a point, and what stands at a program's points is of the policy.
use Rattle.std.specs.Prelude.{◌≡◌, ℕ, ◌<◌, ◌≤◌, List, Some, slice_get, length}
use Rattle.cw_rights.specs.Policies.{PlainPolicy}
use Rattle.cw_syntax.specs.Trees.{File}
use Rattle.cw_resolve.specs.Scenes.{names_of}
use Rattle.cw_game.specs.declared.spots.Spot.{Spot}
use Rattle.cw_game.specs.declared.spots.Spot.TheVariants.{Visit, Asked, Step, Branch, Label, Open, Close, Call, SplitCall, Exit}
use Rattle.cw_points.specs.declared.graph.Point.{Point}
use Rattle.cw_points.specs.declared.graph.Point.TheVariants as point
use Rattle.cw_points.specs.declared.graph.Node.{Node}
use Rattle.cw_points.specs.declared.graph.Part.{Part}
use Rattle.cw_points.specs.declared.graph.Graph.{Graph}
use Rattle.cw_points.specs.Graphs.{IsGraph}
use Rattle.cw_positions.specs.Positions.{primitives_at, number, spots}

-- What may stand at a position of this point: with the seam's number, a visit and what is asked have the primitive of their stage.
abbrev pub IsOf : PlainPolicy → List Part → Node → Spot → Type 0
IsOf policy parts n (Visit j i a) = (number n.seam ≡ j) × (slice_get (primitives_at policy parts n.point) i ≡ Some a)
IsOf policy parts n (Asked j i a) = (number n.seam ≡ j) × (slice_get (primitives_at policy parts n.point) i ≡ Some a)
IsOf policy parts n (Label j l next) = (number n.seam ≡ j) × (n.point ≡ point.Label l)
IsOf policy parts n (Open j d next) = (number n.seam ≡ j) × (n.point ≡ point.Open d)
IsOf policy parts n (Close j d next) = (number n.seam ≡ j) × (n.point ≡ point.Close d)
IsOf policy parts n (Call j f next) = (number n.seam ≡ j) × (n.point ≡ point.Call f)
IsOf policy parts n (SplitCall j f next) = (number n.seam ≡ j) × (n.point ≡ point.Call f)
IsOf policy parts n (Branch left right) = n.point ≡ point.Branch
IsOf policy parts n (Exit f) = n.point ≡ point.Exit
IsOf policy parts n (Step next) = Unit {0}

-- Each position is one of some point of the graph.
abbrev pub PositionsAreOfPoints : Type 0
PositionsAreOfPoints = (g : Graph) (policy : PlainPolicy) (q : ℕ) (s : Spot) → slice_get (spots g policy) q ≡ Some s
    → (p : ℕ) × (n : Node) × (slice_get g.nodes.items p ≡ Some n) × IsOf policy g.parts.items n s

-- A label has a number of the policy, or the one behind them; what is opened and closed are descriptors of the policy; what is called is
-- a function of the graph.
abbrev pub IsPointWithin : PlainPolicy → ℕ → Point → Type 0
IsPointWithin policy functions (point.Label l) = l ≤ length policy.labels
IsPointWithin policy functions (point.Open d) = d < length policy.descriptors
IsPointWithin policy functions (point.Close d) = d < length policy.descriptors
IsPointWithin policy functions (point.Call f) = f < functions
IsPointWithin policy functions point.Entry = Unit {0}
IsPointWithin policy functions point.Step = Unit {0}
IsPointWithin policy functions point.Branch = Unit {0}
IsPointWithin policy functions point.Exit = Unit {0}

abbrev pub PointsAreWithin : Type 0
PointsAreWithin = (policy : PlainPolicy) (source : List ℕ) (file : File) (g : Graph) → IsGraph (names_of policy) source file g
    → (p : ℕ) (n : Node) → slice_get g.nodes.items p ≡ Some n → IsPointWithin policy (length g.parts.items) n.point
