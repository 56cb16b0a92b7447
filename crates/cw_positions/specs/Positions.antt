-- The positions of the game at the points of a program under a policy, in the order of the points. A point with k primitives has a visit
-- and what is asked there for each of them, then its free position, and a second free one where its last primitive is a split.
use Rattle.std.specs.Prelude.{ℕ, suc, ◌+◌, ◌*◌, List, [], ◌∷◌, ◌++◌, Bool, false, cond, Option, Some, None, option_map, map, take, length, slice_get}
use Rattle.std.specs.List.{sum_by, flat_map, range_with_len}
use Rattle.cw_core.specs.declared.ids.SeamId.{SeamId}
use Rattle.cw_rights.specs.declared.capabilities.Primitive.{Primitive}
use Rattle.cw_rights.specs.Policies.{PlainPolicy, primitives}
use Rattle.cw_game.specs.declared.spots.Spot.{Spot}
use Rattle.cw_game.specs.declared.spots.Spot.TheVariants as spot
use Rattle.cw_points.specs.declared.graph.Point.{Point}
use Rattle.cw_points.specs.declared.graph.Point.TheVariants.{Entry, Step, Branch, Label, Open, Close, Call, Exit}
use Rattle.cw_points.specs.declared.graph.Node.{Node}
use Rattle.cw_points.specs.declared.graph.Part.{Part}
use Rattle.cw_points.specs.declared.graph.Graph.{Graph}
use Rattle.cw_points.specs.Walks.{first_of, second_of}

-- whether the function with this number may be split off (not, where no function has it)
abbrev pub is_split_part : Option Part → Bool
is_split_part None = false
is_split_part (Some part) = part.split

abbrev pub is_split : List Part → ℕ → Bool
is_split parts f = is_split_part (slice_get parts f)

-- whether a call that may be split off stands at a point
abbrev pub is_split_call : List Part → Point → Bool
is_split_call parts (Call f) = is_split parts f
is_split_call parts _ = false

-- what is tried or skipped at a point
abbrev pub primitives_at : PlainPolicy → List Part → Point → List Primitive
primitives_at policy parts Entry = primitives policy false
primitives_at policy parts (Label l) = primitives policy false
primitives_at policy parts (Call f) = primitives policy (is_split parts f)
primitives_at policy parts _ = []

-- how many positions a point has
abbrev pub width : PlainPolicy → List Part → Point → ℕ
width policy parts point = 2 * length (primitives_at policy parts point) + 1 + cond (is_split_call parts point) 1 0

-- where the positions of a point begin: behind those of the points before it
abbrev pub base : PlainPolicy → List Part → List Node → ℕ → ℕ
base policy parts ns p = sum_by (λ n. width policy parts n.point) (take p ns)

-- the visits of a seam from this stage on, each with what is asked there
abbrev pub visits : (seam stage : ℕ) → List Primitive → List Spot
visits j i [] = []
visits j i (a ∷ later) = spot.Visit j i a ∷ (spot.Asked j i a ∷ visits j (suc i) later)

-- The free positions of what stands at a point, in this function and with this seam: they lead to `left`, and a condition that doesn't hold
-- to `right`.
abbrev pub free : List Part → Point → (function seam left right : ℕ) → List Spot
free parts Entry f j left right = spot.Step left ∷ []
free parts Step f j left right = spot.Step left ∷ []
free parts Branch f j left right = spot.Branch left right ∷ []
free parts (Label l) f j left right = spot.Label j l left ∷ []
free parts (Open d) f j left right = spot.Open j d left ∷ []
free parts (Close d) f j left right = spot.Close j d left ∷ []
free parts (Call callee) f j left right = spot.Call j callee left ∷ cond (is_split parts callee) (spot.SplitCall j callee left ∷ []) []
free parts Exit f j left right = spot.Exit f ∷ []

-- the number of a seam (0 where there is none), and where the positions begin of the point that is next (0 where none is)
abbrev pub number : Option SeamId → ℕ
number None = 0
number (Some j) = j.0

abbrev pub to : (ℕ → ℕ) → Option ℕ → ℕ
to at None = 0
to at (Some p) = at p

-- The positions of a point, by where each point has its own.
abbrev pub spots_at : PlainPolicy → List Part → (ℕ → ℕ) → Node → List Spot
spots_at policy parts at n =
    visits (number n.seam) 0 (primitives_at policy parts n.point)
    ++ free parts n.point n.function (number n.seam) (to at (first_of n.next)) (to at (second_of n.next))

abbrev pub spots_in : PlainPolicy → List Part → List Node → List Spot
spots_in policy parts ns = flat_map (spots_at policy parts (base policy parts ns)) ns

-- The positions of all points of a graph.
abbrev pub spots : Graph → PlainPolicy → List Spot
spots g policy = spots_in policy g.parts.items g.nodes.items

-- where the positions of a point begin, where those of each begin and all end
abbrev pub base_of : Graph → PlainPolicy → ℕ → ℕ
base_of g policy p = base policy g.parts.items g.nodes.items p

abbrev pub bases : Graph → PlainPolicy → List ℕ
bases g policy = map (base_of g policy) (range_with_len 0 (length g.nodes.items + 1))

-- where the positions of a function begin, and where it ends (0 for a number that no function has)
abbrev pub entry_of : Graph → PlainPolicy → ℕ → ℕ
entry_of g policy f = to (base_of g policy) (option_map (λ part. part.entry.0) (slice_get g.parts.items f))

abbrev pub exit_of : Graph → PlainPolicy → ℕ → ℕ
exit_of g policy f = to (base_of g policy) (option_map (λ part. part.exit.0) (slice_get g.parts.items f))
