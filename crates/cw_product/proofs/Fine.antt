-- What stands at the positions of a program's graph is in range, and so are its functions and points.
use Rattle.std.proofs.Common.{◌≡◌, ℕ, ◌≤◌, List, [], length, Some, subst, arith}
use Rattle.std.specs.Prelude.{slice_get, Contains, true, false}
use Rattle.std.proofs.lemmas.List.{length-map}
use Rattle.cw_lemmas.proofs.Lists.{get_contains}
use Rattle.cw_rights.specs.declared.capabilities.Primitive.{Primitive}
use Rattle.cw_rights.specs.declared.capabilities.Primitive.TheVariants.{Limit, Enter, Split}
use Rattle.cw_rights.specs.Policies.{PlainPolicy, policy_of, primitives, descriptor_of}
use Rattle.cw_resolve.specs.Scenes.{names_of}
use Rattle.cw_game.specs.declared.spots.Spot.{Spot}
use Rattle.cw_game.specs.declared.spots.Spot.TheVariants.{Visit, Asked, Step, Branch, Label, Open, Close, Call, SplitCall, Exit}
use Rattle.cw_game.proofs.Fronts.{among_all}
use Rattle.cw_points.specs.declared.graph.Point.{Point}
use Rattle.cw_points.specs.declared.graph.Point.TheVariants as point
use Rattle.cw_points.specs.declared.graph.Node.{Node}
use Rattle.cw_points.specs.declared.graph.Part.{Part}
use Rattle.cw_positions.specs.Positions.{is_split, primitives_at, spots}
use Rattle.cw_positions.specs.Closed.{LeadsWithin}
use Rattle.cw_positions.specs.Origins.{IsOf, IsPointWithin}
use Rattle.cw_positions.proofs.Programs.{is_whole, positions_are_closed}
use Rattle.cw_positions.proofs.Origins.{positions_are_of_points}
use Rattle.cw_positions.proofs.Bounding.{points_are_within}
use Rattle.cw_product.specs.Product.{Held, IsProgramsGraph}
use Rattle.cw_product.specs.Kept.{IsFine, AreFine}

none_in : {A : Type 0} {P : Type 0} (a : A) → Contains [] a → P
none_in a h = absurd (omega (arith, h.1))

-- what is tried or skipped at a point is the policy's
primitive_in : (policy : PlainPolicy) (parts : List Part) (w : Point) (a : Primitive) → Contains (primitives_at policy parts w) a
    → Contains (primitives policy true) a
primitive_in policy parts point.Entry a h = among_all policy false a h
primitive_in policy parts point.Step a h = none_in a h
primitive_in policy parts point.Branch a h = none_in a h
primitive_in policy parts (point.Label l) a h = among_all policy false a h
primitive_in policy parts (point.Open d) a h = none_in a h
primitive_in policy parts (point.Close d) a h = none_in a h
primitive_in policy parts (point.Call f) a h = among_all policy (is_split parts f) a h
primitive_in policy parts point.Exit a h = none_in a h

module _ (h : Held) where
  abbrev policy : PlainPolicy
  policy = policy_of h.states.policy

  abbrev functions : ℕ
  functions = length h.graph.parts.items

  primitive_at : (n : Node) (i : ℕ) (a : Primitive) → slice_get (primitives_at (policy_of h.states.policy) h.graph.parts.items n.point) i ≡ Some a
      → Contains (primitives (policy_of h.states.policy) true) a
  primitive_at n i a e = primitive_in policy h.graph.parts.items n.point a (get_contains (primitives_at policy h.graph.parts.items n.point) i a e)

  seen_at : (n : Node) (w : Point) → n.point ≡ w → IsPointWithin (policy_of h.states.policy) (length h.graph.parts.items) n.point
      → IsPointWithin (policy_of h.states.policy) (length h.graph.parts.items) w
  seen_at n w e i = subst (IsPointWithin policy functions) e i

  labels : length (policy_of h.states.policy).labels ≡ length h.states.policy.labels.items
  labels = length-map h.states.policy.labels.items (λ name. name.items)

  descriptors : length (policy_of h.states.policy).descriptors ≡ length h.states.policy.descriptors.items
  descriptors = length-map h.states.policy.descriptors.items descriptor_of

  fine : (p : ℕ) (s : Spot) (n : Node) → LeadsWithin (length (spots h.graph (policy_of h.states.policy))) (length h.graph.parts.items) p s
      → IsOf (policy_of h.states.policy) h.graph.parts.items n s → IsPointWithin (policy_of h.states.policy) (length h.graph.parts.items) n.point
      → length h.graph.parts.items ≤ 65535 → IsFine h p s
  fine p (Visit j i a) n l o w few = l
  fine p (Asked j i Split) n l o w few = (omega (arith, l), l, primitive_at n i Split o.1)
  fine p (Asked j i Enter) n l o w few = (l, l, primitive_at n i Enter o.1)
  fine p (Asked j i (Limit limit)) n l o w few = (l, l, primitive_at n i (Limit limit) o.1)
  fine p (Step m) n l o w few = l
  fine p (Branch m k) n l o w few = l
  fine p (Label j k m) n l o w few = (l, omega (arith, seen_at n (point.Label k) o.1 w, labels))
  fine p (Open j d m) n l o w few = (l, omega (arith, seen_at n (point.Open d) o.1 w, descriptors))
  fine p (Close j d m) n l o w few = (l, omega (arith, seen_at n (point.Close d) o.1 w, descriptors))
  fine p (Call j f m) n l o w few = (l.1, omega (arith, l.0, few))
  fine p (SplitCall j f m) n l o w few = (l.1, omega (arith, l.0, few))
  fine p (Exit f) n l o w few = tt

pub are_fine : (h : Held) → IsProgramsGraph (policy_of h.states.policy) h.graph → length h.graph.nodes.items ≤ 8192 → AreFine h
are_fine h g narrow p s e =
    let policy = policy_of h.states.policy in
    let names = names_of policy in
    let c = positions_are_closed names g.source g.file h.graph policy g.drawn in
    let o = positions_are_of_points h.graph policy p s e in
    let w = points_are_within policy g.source g.file h.graph g.drawn o.0 o.1 o.2 in
    fine h p s o.1 (c.leads p s e) o.3 w (omega (arith, narrow, (is_whole names g.source g.file h.graph g.drawn).few))
