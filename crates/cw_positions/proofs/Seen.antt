-- The seams of a program's graph are those of its positions, each with its stages.
use Rattle.std.proofs.Common.{◌≡◌, ℕ, zero, suc, ◌+◌, List, [], ◌∷◌, ◌++◌, length, map, Bool, true, false, nat_eq, nat_lt, Option, Some}
use Rattle.std.proofs.Common.{None, refl, sym, ap, ◌∙◌, subst, arith, ⊎_elim, zero-add, eq-eqb}
use Rattle.std.specs.Prelude.{slice_get}
use Rattle.std.specs.List.{list_any}
use Rattle.std.proofs.lemmas.Bool.{eqb-true, lt-ltb, ltb-true}
use Rattle.std.proofs.lemmas.Option.{none-some, same_Some, slice_get_within}
use Rattle.cw_rights.specs.declared.capabilities.Limit.{Limit as ALimit}
use Rattle.cw_rights.specs.declared.capabilities.Primitive.{Primitive}
use Rattle.cw_rights.specs.declared.capabilities.Primitive.TheVariants.{Limit, Enter, Split}
use Rattle.cw_rights.specs.Policies.{PlainPolicy, primitives}
use Rattle.cw_syntax.specs.Names.{Names}
use Rattle.cw_syntax.specs.Trees.{File}
use Rattle.cw_syntax.specs.Plans.{plan_of}
use Rattle.cw_game.specs.declared.spots.Spot.{Spot}
use Rattle.cw_game.specs.declared.spots.Spot.TheVariants as spot
use Rattle.cw_game.specs.Conditions.{has_seam, has_stage}
use Rattle.std.proofs.lemmas.Bool.{and_parts, and_from as both}
use Rattle.cw_points.specs.declared.graph.Point.{Point}
use Rattle.cw_points.specs.declared.graph.Point.TheVariants as point
use Rattle.cw_points.specs.declared.graph.Node.{Node}
use Rattle.cw_points.specs.declared.graph.Part.{Part}
use Rattle.cw_points.specs.declared.graph.Seam.{Seam}
use Rattle.cw_points.specs.declared.graph.Graph.{Graph}
use Rattle.cw_points.specs.Graphs.{nodes, IsGraph}
use Rattle.cw_points.specs.Walks.{first_of, second_of}
use Rattle.cw_points.proofs.Held.{HasAt}
use Rattle.cw_positions.specs.Positions.{is_split, primitives_at, width, base, visits, free, number, to, spots_at, spots}
use Rattle.cw_positions.specs.Origins.{IsOf}
use Rattle.cw_positions.specs.Seams.{stages_at, node_of, stages_of}
use Rattle.cw_positions.proofs.Lengths.{width_at}
use Rattle.cw_positions.proofs.Standing.{stands}
use Rattle.cw_lemmas.proofs.Lists.{get_below, get_front}
use Rattle.cw_positions.proofs.Origins.{positions_are_of_points}
use Rattle.cw_positions.proofs.Seaming.{is_seam_point, AreSeams, seams_of_plan, seam_at, point_at}
use Rattle.std.proofs.lemmas.Map.Keys.{any_passes_from_place as at_any}
use Rattle.std.specs.Cmp.{both_ways as bool_same}
use Rattle.cw_lemmas.proofs.Lists.{any_get as any_at}
use Rattle.cw_lemmas.proofs.Numbers.{nat_eq_self}

pub has_get : {A : Type 0} (g : List A) (p : ℕ) (is : List A) (i : ℕ) (x : A) → HasAt g p is → slice_get is i ≡ Some x → slice_get g (p + i) ≡ Some x
has_get g p [] i x h e = absurd (none-some x e)
has_get g p (y ∷ is) zero x h e = let z : p ≡ p + 0 = omega arith in subst (λ q. slice_get g q ≡ Some x) z (h.0 ∙ e)
has_get g p (y ∷ is) (suc i) x h e =
    let z : p + 1 + i ≡ p + suc i = omega arith in subst (λ q. slice_get g q ≡ Some x) z (has_get g (p + 1) is i x h.1 e)

-- where the visit of a stage is
visit_get : (j first : ℕ) (later : List Primitive) (i : ℕ) (a : Primitive) → slice_get later i ≡ Some a
    → (m : ℕ) × (slice_get (visits j first later) m ≡ Some (spot.Visit j (first + i) a))
visit_get j first [] i a e = absurd (none-some a e)
visit_get j first (b ∷ later) zero a e =
    let z : first ≡ first + 0 = omega arith in
    (0, ap (λ c. Some (spot.Visit j first c)) (same_Some b a e) ∙ ap (λ k. Some (spot.Visit j k a)) z)
visit_get j first (b ∷ later) (suc i) a e =
    let r = visit_get j (suc first) later i a e in
    let z : suc first + i ≡ first + suc i = omega arith in
    (suc (suc r.0), r.1 ∙ ap (λ k. Some (spot.Visit j k a)) z)

-- there is a primitive
front : (ls : List ALimit) (rest : List Primitive) → (a : Primitive) × (slice_get (map (λ limit. Limit limit) ls ++ Enter ∷ rest) 0 ≡ Some a)
front [] rest = (Enter, refl)
front (l ∷ ls) rest = (Limit l, refl)

first_primitive : (policy : PlainPolicy) (split : Bool) → (a : Primitive) × (slice_get (primitives policy split) 0 ≡ Some a)
first_primitive policy true = front policy.limits (Split ∷ [])
first_primitive policy false = front policy.limits []

module _ (policy : PlainPolicy) (parts : List Part) where
  -- what is tried stands at a point with a seam
  tried_at : (w : Point) (i : ℕ) (a : Primitive) → slice_get (primitives_at policy parts w) i ≡ Some a → is_seam_point w ≡ true
  tried_at point.Entry i a e = refl
  tried_at point.Step i a e = absurd (none-some a e)
  tried_at point.Branch i a e = absurd (none-some a e)
  tried_at (point.Label l) i a e = refl
  tried_at (point.Open d) i a e = refl
  tried_at (point.Close d) i a e = refl
  tried_at (point.Call f) i a e = refl
  tried_at point.Exit i a e = absurd (none-some a e)

  -- a position with a seam is of a point with it
  seam_spot : (n : Node) (j : ℕ) (s : Spot) → IsOf policy parts n s → has_seam j s ≡ true → (number n.seam ≡ j) × (is_seam_point n.point ≡ true)
  seam_spot n j (spot.Visit k i a) h e = (h.0 ∙ eqb-true k j e, tried_at n.point i a h.1)
  seam_spot n j (spot.Asked k i a) h e = (h.0 ∙ eqb-true k j e, tried_at n.point i a h.1)
  seam_spot n j (spot.Label k l next) h e = (h.0 ∙ eqb-true k j e, ap is_seam_point h.1)
  seam_spot n j (spot.Open k d next) h e = (h.0 ∙ eqb-true k j e, ap is_seam_point h.1)
  seam_spot n j (spot.Close k d next) h e = (h.0 ∙ eqb-true k j e, ap is_seam_point h.1)
  seam_spot n j (spot.Call k f next) h e = (h.0 ∙ eqb-true k j e, ap is_seam_point h.1)
  seam_spot n j (spot.SplitCall k f next) h e = (h.0 ∙ eqb-true k j e, ap is_seam_point h.1)
  seam_spot n j (spot.Branch left right) h e = cc
  seam_spot n j (spot.Exit f) h e = cc
  seam_spot n j (spot.Step next) h e = cc

  visit_seen : (w : Point) (f j l r : ℕ) (split : Bool) → primitives_at policy parts w ≡ primitives policy split
      → (m : ℕ) × (s : Spot) × (slice_get (visits j 0 (primitives_at policy parts w) ++ free parts w f j l r) m ≡ Some s) × (has_seam j s ≡ true)
  visit_seen w f j l r split e =
      let a = first_primitive policy split in
      let v = visit_get j 0 (primitives_at policy parts w) 0 a.0 (ap (λ l. slice_get l 0) e ∙ a.1) in (
        v.0,
        spot.Visit j (0 + 0) a.0,
        get_front (visits j 0 (primitives_at policy parts w)) (free parts w f j l r) v.0 (spot.Visit j (0 + 0) a.0)
            v.1,
        nat_eq_self j,
      )

  -- a point with a seam has a position with it
  seam_seen : (w : Point) (f j l r : ℕ) → is_seam_point w ≡ true
      → (m : ℕ) × (s : Spot) × (slice_get (visits j 0 (primitives_at policy parts w) ++ free parts w f j l r) m ≡ Some s) × (has_seam j s ≡ true)
  seam_seen point.Entry f j l r h = visit_seen point.Entry f j l r false refl
  seam_seen point.Step f j l r h = cc
  seam_seen point.Branch f j l r h = cc
  seam_seen (point.Label m) f j l r h = visit_seen (point.Label m) f j l r false refl
  seam_seen (point.Open d) f j l r h = (0, spot.Open j d l, refl, nat_eq_self j)
  seam_seen (point.Close d) f j l r h = (0, spot.Close j d l, refl, nat_eq_self j)
  seam_seen (point.Call m) f j l r h = visit_seen (point.Call m) f j l r (is_split parts m) refl
  seam_seen point.Exit f j l r h = cc

  stage_spot : (n : Node) (j i : ℕ) (s : Spot) → IsOf policy parts n s → has_stage j i s ≡ true
      → (number n.seam ≡ j) × (is_seam_point n.point ≡ true) × ((a : Primitive) × (slice_get (primitives_at policy parts n.point) i ≡ Some a))
  stage_spot n j i (spot.Visit k h a) o e =
      let t = and_parts (nat_eq k j) (nat_eq h i) e in
      let z = subst (λ q. slice_get (primitives_at policy parts n.point) q ≡ Some a) (eqb-true h i t.1) o.1 in
      (o.0 ∙ eqb-true k j t.0, tried_at n.point i a z, (a, z))
  stage_spot n j i (spot.Asked k h a) o e = cc
  stage_spot n j i (spot.Label k l next) o e = cc
  stage_spot n j i (spot.Open k d next) o e = cc
  stage_spot n j i (spot.Close k d next) o e = cc
  stage_spot n j i (spot.Call k f next) o e = cc
  stage_spot n j i (spot.SplitCall k f next) o e = cc
  stage_spot n j i (spot.Branch left right) o e = cc
  stage_spot n j i (spot.Exit f) o e = cc
  stage_spot n j i (spot.Step next) o e = cc

module _ (g : Graph) (policy : PlainPolicy) (are : AreSeams 0 0 g.nodes.items g.seams.items) where
  abbrev parts : List Part
  parts = g.parts.items

  abbrev ns : List Node
  ns = g.nodes.items

  abbrev ss : List Seam
  ss = g.seams.items

  -- the seam of a point that has one
  seam_of : (p : ℕ) (n : Node) (j : ℕ) → slice_get g.nodes.items p ≡ Some n → number n.seam ≡ j → is_seam_point n.point ≡ true
      → (s : Seam) × (slice_get g.seams.items j ≡ Some s) × (s.point.0 ≡ p)
  seam_of p n j e k h =
      ⊎_elim
      (λ y. let w : true ≡ false = sym h ∙ y.1 in absurd (cc))
      (λ y.
      let z : y.0 ≡ j = sym (zero-add y.0) ∙ sym (ap number y.2.0) ∙ k in
      (y.1, subst (λ q. slice_get ss q ≡ Some y.1) z y.3, y.4 ∙ zero-add p))
      (seam_at 0 0 ns ss p n are e)

  -- the point of a seam
  point_of : (j : ℕ) (s : Seam) → slice_get g.seams.items j ≡ Some s
      → (n : Node) × (slice_get g.nodes.items s.point.0 ≡ Some n) × (number n.seam ≡ j) × (is_seam_point n.point ≡ true)
  point_of j s e =
      let r = point_at 0 0 ns ss j s are e in
      let z : r.0 ≡ s.point.0 = sym (r.4 ∙ zero-add r.0) in
      (r.1, subst (λ q. slice_get ns q ≡ Some r.1) z r.2, ap number r.3.0 ∙ zero-add j, r.3.1)

  -- a position of a point
  position_of : (p : ℕ) (n : Node) (j : ℕ) (m : ℕ) (s : Spot) → slice_get g.nodes.items p ≡ Some n → number n.seam ≡ j
      → slice_get (visits j 0 (primitives_at policy g.parts.items n.point)
      ++ free g.parts.items n.point n.function j (to (base policy g.parts.items g.nodes.items) (first_of n.next))
      (to (base policy g.parts.items g.nodes.items) (second_of n.next))) m ≡ Some s
      → slice_get (spots g policy) (base policy g.parts.items g.nodes.items p + m) ≡ Some s
  position_of p n j m s e k h =
      let at = base policy parts ns in
      let l = to at (first_of n.next) in
      let r = to at (second_of n.next) in
      let here = stands (spots_at policy parts at) (λ (o : Node). width policy parts o.point) (width_at policy parts at) ns p n e in
      let own = subst (λ q. slice_get (visits q 0 (primitives_at policy parts n.point) ++ free parts n.point n.function q l r) m ≡ Some s) (sym k) h
      in
      has_get (spots g policy) (at p) (spots_at policy parts at n) m s here own

  seams_seen : (j : ℕ) → list_any (has_seam j) (spots g policy) ≡ nat_lt j (length g.seams.items)
  seams_seen j = bool_same (list_any (has_seam j) (spots g policy)) (nat_lt j (length ss)) forth back
    where
      forth : list_any (has_seam j) (spots g policy) ≡ true → nat_lt j (length g.seams.items) ≡ true
      forth t =
          let q = any_at (has_seam j) (spots g policy) t in
          let r = positions_are_of_points g policy q.0 q.1 q.2 in
          let k = seam_spot policy parts r.1 j q.1 r.3 q.3 in
          let s = seam_of r.0 r.1 j r.2 k.0 k.1 in
          lt-ltb j (length ss) (slice_get_within ss j s.0 s.1)

      back : nat_lt j (length g.seams.items) ≡ true → list_any (has_seam j) (spots g policy) ≡ true
      back t =
          let s = get_below ss j (ltb-true j (length ss) t) in
          let n = point_of j s.0 s.1 in
          let at = base policy parts ns in
          let v = seam_seen policy parts n.0.point n.0.function j (to at (first_of n.0.next)) (to at (second_of n.0.next)) n.3 in
          at_any (has_seam j) (spots g policy) (at s.0.point.0 + v.0) v.1 (position_of s.0.point.0 n.0 j v.0 v.1 n.1 n.2 v.2) v.3

  stages_are : (j : ℕ) (s : Seam) (n : Node) → slice_get g.seams.items j ≡ Some s → slice_get g.nodes.items s.point.0 ≡ Some n
      → stages_of g policy j ≡ length (primitives_at policy g.parts.items n.point)
  stages_are j s n es en = ap (λ o. stages_at policy parts (node_of ns o)) es ∙ ap (stages_at policy parts) en

  stages_seen : (j i : ℕ) → list_any (has_stage j i) (spots g policy) ≡ nat_lt i (stages_of g policy j)
  stages_seen j i = bool_same (list_any (has_stage j i) (spots g policy)) (nat_lt i (stages_of g policy j)) forth (back (slice_get ss j) refl)
    where
      forth : list_any (has_stage j i) (spots g policy) ≡ true → nat_lt i (stages_of g policy j) ≡ true
      forth t =
          let q = any_at (has_stage j i) (spots g policy) t in
          let r = positions_are_of_points g policy q.0 q.1 q.2 in
          let k = stage_spot policy parts r.1 j i q.1 r.3 q.3 in
          let s = seam_of r.0 r.1 j r.2 k.0 k.1 in
          let within = slice_get_within (primitives_at policy parts r.1.point) i k.2.0 k.2.1 in
          let en = subst (λ p. slice_get ns p ≡ Some r.1) (sym s.2) r.2 in
          ap (nat_lt i) (stages_are j s.0 r.1 s.1 en) ∙ lt-ltb i (length (primitives_at policy parts r.1.point)) within

      back : (o : Option Seam) → slice_get g.seams.items j ≡ o → nat_lt i (stages_of g policy j) ≡ true
          → list_any (has_stage j i) (spots g policy) ≡ true
      back None es t =
          let z : nat_lt i 0 ≡ true = sym (ap (λ o. nat_lt i (stages_at policy parts (node_of ns o))) es) ∙ t in
          let lt = ltb-true i 0 z in
          absurd (omega arith)
      back (Some s) es t =
          let n = point_of j s es in
          let ps = primitives_at policy parts n.0.point in
          let a = get_below ps i (ltb-true i (length ps) (sym (ap (nat_lt i) (stages_are j s n.0 es n.1)) ∙ t)) in
          let at = base policy parts ns in
          let v = visit_get j 0 ps i a.0 a.1 in
          let rest = free parts n.0.point n.0.function j (to at (first_of n.0.next)) (to at (second_of n.0.next)) in
          let here = position_of s.point.0 n.0 j v.0 (spot.Visit j (0 + i) a.0) n.1 n.2
          (get_front (visits j 0 ps) rest v.0 (spot.Visit j (0 + i) a.0) v.1) in
          at_any (has_stage j i) (spots g policy) (at s.point.0 + v.0) (spot.Visit j (0 + i) a.0) here
          (both (nat_eq j j) (nat_eq (0 + i) i) (eq-eqb j j refl) (eq-eqb (0 + i) i (zero-add i)))

are_of_graph : (names : Names) (source : List ℕ) (file : File) (g : Graph) → IsGraph names source file g → AreSeams 0 0 g.nodes.items g.seams.items
are_of_graph names source file g i =
    subst (λ ns. AreSeams 0 0 ns g.seams.items) (sym i.nodes)
    (subst (AreSeams 0 0 (nodes (plan_of names source file))) (sym i.seams) (seams_of_plan names source file))

pub seams_are_seen : (names : Names) (source : List ℕ) (file : File) (g : Graph) (policy : PlainPolicy) → IsGraph names source file g
    → (j : ℕ) → list_any (has_seam j) (spots g policy) ≡ nat_lt j (length g.seams.items)
seams_are_seen names source file g policy i j = seams_seen g policy (are_of_graph names source file g i) j

pub stages_are_seen : (names : Names) (source : List ℕ) (file : File) (g : Graph) (policy : PlainPolicy) → IsGraph names source file g
    → (j i : ℕ) → list_any (has_stage j i) (spots g policy) ≡ nat_lt i (stages_of g policy j)
stages_are_seen names source file g policy i j stage = stages_seen g policy (are_of_graph names source file g i) j stage
