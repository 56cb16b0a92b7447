-- The paths of a graph with a stack of the points to which the calls return. The letter fixes whether the stack is pushed, popped or left, as in
-- the visibly pushdown automata of Alur and Madhusudan (2004).
use Rattle.std.specs.Prelude.{◌≡◌, ℕ, List, [], ◌∷◌, Option, Some, None, option_map, option_and_then, map, slice_get}
use Rattle.cw_core.specs.declared.ids.PointId.{PointId}
use Rattle.cw_syntax.specs.Names.{Names}
use Rattle.cw_syntax.specs.Trees.{File}
use Rattle.cw_syntax.specs.Plans.{Plan, plan_of}
use Rattle.cw_syntax.specs.Frames.{Way, On, Left, Right, Opened, Failed, Item, Frame, front, pass, start_stack, Path}
use Rattle.cw_points.specs.declared.graph.Point.{Point}
use Rattle.cw_points.specs.declared.graph.Point.TheVariants.{Entry, Step, Branch, Label, Open, Close, Call, Exit}
use Rattle.cw_points.specs.declared.graph.Node.{Node}
use Rattle.cw_points.specs.declared.graph.Part.{Part}
use Rattle.cw_points.specs.Points.{points}
use Rattle.cw_points.specs.Graphs.{nodes, parts_from, splits_of}

-- The point that is next, and the points to which the calls return that wait, the innermost first.
pub record Stand : Type 0 where
  pub point : ℕ
  pub returns : List ℕ

abbrev pub stand : List ℕ → ℕ → Stand
stand returns p = record { point = p; returns = returns }

abbrev pub number_of : Option PointId → Option ℕ
number_of next = option_map (λ p. p.0) next

-- the first successor, and the second
abbrev pub first_of : List (Option PointId) → Option ℕ
first_of [] = None
first_of (a ∷ rest) = number_of a

abbrev pub second_of : List (Option PointId) → Option ℕ
second_of [] = None
second_of (a ∷ rest) = first_of rest

-- at a call the callee begins, and the point to which it returns waits
abbrev pub called : Option Part → List ℕ → ℕ → Option Stand
called callee returns back = option_map (λ part. stand (back ∷ returns) part.entry.0) callee

-- at an exit the innermost return is taken; where there is none, the program is over
abbrev pub returned : List ℕ → Option Stand
returned [] = None
returned (back ∷ returns) = Some (stand returns back)

-- Where a step leads, if there is one: to a point, or, as None, to the end of the program.
abbrev pub leads : List Part → List ℕ → Point → List (Option PointId) → Way → Option (Option Stand)
leads parts returns Entry next On = option_map (λ p. Some (stand returns p)) (first_of next)
leads parts returns Step next On = option_map (λ p. Some (stand returns p)) (first_of next)
leads parts returns Branch next Left = option_map (λ p. Some (stand returns p)) (first_of next)
leads parts returns Branch next Right = option_map (λ p. Some (stand returns p)) (second_of next)
leads parts returns (Label l) next On = option_map (λ p. Some (stand returns p)) (first_of next)
leads parts returns (Open d) next Opened = option_map (λ p. Some (stand returns p)) (first_of next)
leads parts returns (Open d) next Failed = option_map (λ p. Some (stand returns p)) (first_of next)
leads parts returns (Close d) next On = option_map (λ p. Some (stand returns p)) (first_of next)
leads parts returns (Call f) next On = option_map (λ s. Some s) (option_and_then (called (slice_get parts f) returns) (first_of next))
leads parts returns Exit next On = Some (returned returns)
leads _ _ _ _ _ = None

-- the step from a point by a way
abbrev pub goes : List Node → List Part → Stand → Way → Option (Option Stand)
goes ns parts s way = option_and_then (λ n. leads parts s.returns n.point n.next way) (slice_get ns s.point)

-- these points are passed from here, in order, each by its way
abbrev pub WalkFrom : List Node → List Part → Option Stand → List (ℕ × Way) → Type 0
WalkFrom ns parts here [] = Unit {0}
WalkFrom ns parts None (p ∷ ps) = ⊥
WalkFrom ns parts (Some s) (p ∷ ps) = (s.point ≡ p.0) × ((next : Option Stand) × (goes ns parts s p.1 ≡ Some next) × WalkFrom ns parts next ps)

-- a program starts at the entry of `main`
abbrev pub Walk : List Node → List Part → ℕ → List (ℕ × Way) → Type 0
Walk ns parts main ps = WalkFrom ns parts (option_map (λ part. stand [] part.entry.0) (slice_get parts main)) ps

-- these items are passed from this stack of frames, in order, each by its way
abbrev pub PathByFrom : Plan → List Frame → List (Item × Way) → Type 0
PathByFrom plan stack [] = Unit {0}
PathByFrom plan stack (i ∷ is) = (next : List Frame) × (front stack ≡ i.0 ∷ []) × (pass plan stack i.1 ≡ Some next) × PathByFrom plan next is

-- a path of a program by these ways
abbrev pub PathBy : Plan → List (Item × Way) → Type 0
PathBy plan is = PathByFrom plan (start_stack plan) is

-- these items have these numbers, and are passed by the same ways
pub record AreNumbered (plan : Plan) (is : List (Item × Way)) (ps : List (ℕ × Way)) : Type 0 where
  pub items : map (λ i. Some i.0) is ≡ map (λ p. slice_get (points plan) p.0) ps
  pub ways : map (λ i. i.1) is ≡ map (λ p. p.1) ps

abbrev pub parts_of : Names → List ℕ → File → List Part
parts_of names source file = parts_from (plan_of names source file).routines (splits_of names source file) 0

-- the walks of a program's graph
abbrev pub WalkOf : Names → List ℕ → File → List (ℕ × Way) → Type 0
WalkOf names source file ps = Walk (nodes (plan_of names source file)) (parts_of names source file) (plan_of names source file).main ps

-- With the number of each item and the way by which it is passed, the paths of the program are the walks of the graph, and no others.
pub record PathsAreTheWalks (names : Names) (source : List ℕ) (file : File) : Type 0 where
  pub walked : (is : List (Item × Way)) → PathBy (plan_of names source file) is
      → (ps : List (ℕ × Way)) × WalkOf names source file ps × AreNumbered (plan_of names source file) is ps
  pub paths : (ps : List (ℕ × Way)) → WalkOf names source file ps
      → (is : List (Item × Way)) × PathBy (plan_of names source file) is × AreNumbered (plan_of names source file) is ps

-- A path of a program is a path by some ways, these left out.
pub record PathsTakeWays (plan : Plan) : Type 0 where
  pub taken : (items : List Item) → Path plan items → (is : List (Item × Way)) × PathBy plan is × (map (λ i. i.0) is ≡ items)
  pub left_out : (is : List (Item × Way)) → PathBy plan is → Path plan (map (λ i. i.0) is)
