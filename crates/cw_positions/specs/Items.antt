-- Which item of the program stands at a position, and where what stands there leads: by the point of the position.
use Rattle.std.specs.Prelude.{◌≡◌, ◌⊎◌, ℕ, ◌+◌, ◌<◌, ◌≤◌, List, [], ◌∷◌, Some, slice_get, length}
use Rattle.cw_rights.specs.declared.capabilities.Primitive.TheVariants.{Split}
use Rattle.cw_rights.specs.Policies.{PlainPolicy}
use Rattle.cw_syntax.specs.Trees.{File}
use Rattle.cw_syntax.specs.Plans.{Plan, plan_of}
use Rattle.cw_syntax.specs.Frames.{Item, front}
use Rattle.cw_syntax.specs.Runnable.{IsRunnable}
use Rattle.cw_resolve.specs.Scenes.{names_of}
use Rattle.cw_model.specs.Boards.{Board, problem_of}
use Rattle.cw_game.specs.declared.spots.Spot.{Spot}
use Rattle.cw_game.specs.declared.spots.Spot.TheVariants.{Visit, Asked, Step, Branch, Label, Open, Close, Call, SplitCall, Exit}
use Rattle.cw_game.specs.Games.{Game, Config}
use Rattle.cw_game.specs.Together.{Together}
use Rattle.cw_points.specs.declared.graph.Point.TheVariants as point
use Rattle.cw_points.specs.declared.graph.Node.{Node}
use Rattle.cw_points.specs.declared.graph.Graph.{Graph}
use Rattle.cw_points.specs.Points.{points}
use Rattle.cw_points.specs.Graphs.{IsGraph}
use Rattle.cw_points.specs.Walks.{first_of, second_of}
use Rattle.cw_positions.specs.Positions.{to, spots, base_of}
use Rattle.cw_positions.specs.Laid.{IsGameOn}
use Rattle.cw_positions.specs.Origins.{IsOf}

-- The position q is one of the point n: those of a point begin where it begins, and end where those of the next begin.
pub record IsOfPoint (g : Graph) (policy : PlainPolicy) (q n : ℕ) : Type 0 where
  pub there : n < length g.nodes.items
  pub begun : base_of g policy n ≤ q
  pub before : q < base_of g policy (n + 1)

-- What isn't a visit leads to the first positions of the points to which its point leads; an exit ends its point's function.
abbrev pub LeadsAs : (ℕ → ℕ) → Node → Spot → Type 0
LeadsAs at n (Step k) = ((n.point ≡ point.Entry) ⊎ (n.point ≡ point.Step)) × (k ≡ to at (first_of n.next))
LeadsAs at n (Branch l r) = (n.point ≡ point.Branch) × (l ≡ to at (first_of n.next)) × (r ≡ to at (second_of n.next))
LeadsAs at n (Label j l k) = (n.point ≡ point.Label l) × (k ≡ to at (first_of n.next))
LeadsAs at n (Open j d k) = (n.point ≡ point.Open d) × (k ≡ to at (first_of n.next))
LeadsAs at n (Close j d k) = (n.point ≡ point.Close d) × (k ≡ to at (first_of n.next))
LeadsAs at n (Call j f k) = (n.point ≡ point.Call f) × (k ≡ to at (first_of n.next))
LeadsAs at n (SplitCall j f k) = (n.point ≡ point.Call f) × (k ≡ to at (first_of n.next))
LeadsAs at n (Exit f) = (n.point ≡ point.Exit) × (f ≡ n.function)
LeadsAs at n (Visit j i a) = Unit {0}
LeadsAs at n (Asked j i a) = Unit {0}

-- A visit, and what is asked there, lead to positions of the same point.
abbrev pub StaysIn : Graph → PlainPolicy → (q n : ℕ) → Spot → Type 0
StaysIn g policy q n (Visit j i a) = IsOfPoint g policy (q + 1) n × IsOfPoint g policy (q + 2) n
StaysIn g policy q n (Asked j i Split) = IsOfPoint g policy (q + 1) n × IsOfPoint g policy (q + 2) n
StaysIn g policy q n (Asked j i a) = IsOfPoint g policy (q + 1) n
StaysIn g policy q n _ = Unit {0}

-- What stands at a position, by its point.
pub record IsAtPoint (g : Graph) (policy : PlainPolicy) (q : ℕ) (s : Spot) : Type 0 where
  pub point : ℕ
  pub node : Node
  pub is_node : slice_get g.nodes.items point ≡ Some node
  pub within : IsOfPoint g policy q point
  pub is_of : IsOf policy g.parts.items node s
  pub leads : LeadsAs (base_of g policy) node s
  pub stays : StaysIn g policy q point s

abbrev pub SpotsLead : Type 0
SpotsLead = (g : Graph) (policy : PlainPolicy) (q : ℕ) (s : Spot) → slice_get (spots g policy) q ≡ Some s → IsAtPoint g policy q s

-- The item of a program at a position: that of the position's point.
pub record HasItem (plan : Plan) (g : Graph) (policy : PlainPolicy) (q : ℕ) (item : Item) : Type 0 where
  pub point : ℕ
  pub within : IsOfPoint g policy q point
  pub is : slice_get (points plan) point ≡ Some item

-- At each position stands one item of the program, and it is the front of each board that goes together with a pair there.
pub record ItemsStand (policy : PlainPolicy) (source : List ℕ) (file : File) (g : Graph) (game : Game) : Type 0 where
  pub some : (q : ℕ) → q < length game.spots → (item : Item) × HasItem (plan_of (names_of policy) source file) g policy q item
  pub one : (q : ℕ) (item other : Item) → HasItem (plan_of (names_of policy) source file) g policy q item
      → HasItem (plan_of (names_of policy) source file) g policy q other → item ≡ other
  pub front : (b : Board) (c : Config) → Together (problem_of policy source file) game b c
      → (item : Item) × HasItem (plan_of (names_of policy) source file) g policy c.pos item × (front b.stack ≡ item ∷ [])

abbrev pub ItemsStandAtPositions : Type 0
ItemsStandAtPositions = (policy : PlainPolicy) (source : List ℕ) (file : File) (g : Graph) (game : Game)
    → IsGraph (names_of policy) source file g → IsRunnable (plan_of (names_of policy) source file) → IsGameOn g policy game
    → ItemsStand policy source file g game
