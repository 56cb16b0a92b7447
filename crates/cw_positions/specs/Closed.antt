-- Where positions lead: to positions that there are.
use Rattle.std.specs.Prelude.{◌≡◌, ℕ, ◌+◌, ◌*◌, ◌<◌, ◌≤◌, List, Some, slice_get, length}
use Rattle.cw_rights.specs.declared.capabilities.Primitive.TheVariants.{Split}
use Rattle.cw_rights.specs.Policies.{PlainPolicy}
use Rattle.cw_syntax.specs.Names.{Names}
use Rattle.cw_syntax.specs.Trees.{File}
use Rattle.cw_syntax.specs.Plans.{plan_of}
use Rattle.cw_syntax.specs.Runnable.{IsRunnable}
use Rattle.cw_game.specs.declared.spots.Spot.{Spot}
use Rattle.cw_game.specs.declared.spots.Spot.TheVariants.{Visit, Asked, Step, Branch, Label, Open, Close, Call, SplitCall, Exit}
use Rattle.cw_points.specs.declared.graph.Part.{Part}
use Rattle.cw_points.specs.declared.graph.Graph.{Graph}
use Rattle.cw_points.specs.Graphs.{IsGraph}
use Rattle.cw_positions.specs.Positions.{spots, base_of, entry_of, exit_of}

-- What stands at p leads to positions below `size`: a visit to what is asked and past it, what is asked behind it, a granted split one
-- further on. What is called are functions below `functions`.
abbrev pub LeadsWithin : (size functions p : ℕ) → Spot → Type 0
LeadsWithin size functions p (Visit j i a) = p + 2 < size
LeadsWithin size functions p (Asked j i Split) = p + 2 < size
LeadsWithin size functions p (Asked j i a) = p + 1 < size
LeadsWithin size functions p (Step n) = n < size
LeadsWithin size functions p (Branch m n) = (m < size) × (n < size)
LeadsWithin size functions p (Label j l n) = n < size
LeadsWithin size functions p (Open j d n) = n < size
LeadsWithin size functions p (Close j d n) = n < size
LeadsWithin size functions p (Call j f n) = (f < functions) × (n < size)
LeadsWithin size functions p (SplitCall j f n) = (f < functions) × (n < size)
LeadsWithin size functions p (Exit f) = Unit {0}

-- Each position leads to positions that there are and calls functions that there are; each point begins at one, and each function begins and
-- ends at one.
pub record IsClosed (g : Graph) (policy : PlainPolicy) : Type 0 where
  pub leads : (p : ℕ) (s : Spot) → slice_get (spots g policy) p ≡ Some s → LeadsWithin (length (spots g policy)) (length g.parts.items) p s
  pub points : (p : ℕ) → p < length g.nodes.items → base_of g policy p < length (spots g policy)
  pub entries : (f : ℕ) → f < length g.parts.items → entry_of g policy f < length (spots g policy)
  pub exits : (f : ℕ) → f < length g.parts.items → exit_of g policy f < length (spots g policy)

-- The positions of a program's graph are closed, under any policy and whichever names the graph is drawn by.
abbrev pub PositionsAreClosed : Type 0
PositionsAreClosed = (names : Names) (source : List ℕ) (file : File) (g : Graph) (policy : PlainPolicy) → IsGraph names source file g → IsClosed g
    policy

-- Each function begins and ends at points of the graph, and has at least these two.
pub record IsWhole (g : Graph) : Type 0 where
  pub entries : (f : ℕ) (part : Part) → slice_get g.parts.items f ≡ Some part → part.entry.0 < length g.nodes.items
  pub exits : (f : ℕ) (part : Part) → slice_get g.parts.items f ≡ Some part → part.exit.0 < length g.nodes.items
  pub few : 2 * length g.parts.items ≤ length g.nodes.items

abbrev pub GraphsAreWhole : Type 0
GraphsAreWhole = (names : Names) (source : List ℕ) (file : File) (g : Graph) → IsGraph names source file g → IsWhole g

-- `main` of a program that can be run is one of its functions.
abbrev pub MainIsThere : Type 0
MainIsThere = (names : Names) (source : List ℕ) (file : File) (g : Graph) → IsGraph names source file g → IsRunnable (plan_of names source file)
    → g.main < length g.parts.items
