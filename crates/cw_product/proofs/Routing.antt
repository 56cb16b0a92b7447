-- Each position of a function leads to positions of the function.
use Rattle.std.proofs.Common.{◌≡◌, ℕ, zero, suc, ◌+◌, ◌*◌, ◌<◌, ◌≤◌, List, [], ◌∷◌, ◌++◌, Bool, true, false, cond, length, map, Option}
use Rattle.std.proofs.Common.{Some, None, refl, sym, ap, ◌∙◌, subst, inl, inr, arith, add-zero}
use Rattle.std.specs.Prelude.{slice_get}
use Rattle.std.proofs.lemmas.Option.{none-some, same_Some, slice_get_within}
use Rattle.std.proofs.lemmas.Bool.Decides.{leb_tells}
use Rattle.cw_rights.specs.declared.capabilities.Limit.{Limit as ALimit}
use Rattle.cw_rights.specs.declared.capabilities.Primitive.{Primitive}
use Rattle.cw_rights.specs.declared.capabilities.Primitive.TheVariants.{Limit, Enter, Split}
use Rattle.cw_rights.specs.Policies.{PlainPolicy, primitives}
use Rattle.cw_game.specs.declared.spots.Spot.{Spot}
use Rattle.cw_game.specs.declared.spots.Spot.TheVariants.{Visit, Asked, Call, SplitCall, Exit}
use Rattle.cw_points.specs.declared.graph.Point.{Point}
use Rattle.cw_points.specs.declared.graph.Point.TheVariants as point
use Rattle.cw_points.specs.declared.graph.Node.{Node}
use Rattle.cw_points.specs.declared.graph.Part.{Part}
use Rattle.cw_points.specs.Walks.{first_of, second_of}
use Rattle.cw_positions.specs.Positions.{is_split, primitives_at, width, base, visits, free, number, to, spots_at, spots_in}
use Rattle.cw_positions.proofs.Begins.{begin_more}
use Rattle.cw_positions.proofs.Lengths.{width_at}
use Rattle.cw_positions.proofs.Standing.{found}
use Rattle.cw_product.specs.Routes.{IsBetween, LeadsBetween}
use Rattle.cw_product.proofs.Between.{Goes, GoesTo, NodeGoes}
use Rattle.cw_product.proofs.Placing.{rise}
use Rattle.cw_lemmas.proofs.Numbers.{le_from_not_lt as not_below}
use Rattle.cw_product.proofs.Alone.{goes_on, exit_point}
use Rattle.cw_positions.proofs.Rooms.{Room, AllRoom, LeadFrom, lead_at, visits_lead, primitives_room, call_length}

module _ (low high : ℕ) where
  -- these stand from p on, and lead to positions between
  abbrev RouteFrom : ℕ → List Spot → Type 0
  RouteFrom = LeadFrom (LeadsBetween low high)

  route_at : (p : ℕ) (ss : List Spot) (i : ℕ) (s : Spot) → RouteFrom p ss → slice_get ss i ≡ Some s → LeadsBetween low high (p + i) s
  route_at = lead_at (LeadsBetween low high)

  asked_route : (p j i : ℕ) (a : Primitive) (n : ℕ) → Room n a → p + n < high + 1 → LeadsBetween low high p (Asked j i a)
  asked_route p j i Split n h e = omega arith
  asked_route p j i Enter n h e = omega arith
  asked_route p j i (Limit limit) n h e = omega arith

  visit_route : (p j i : ℕ) (a : Primitive) → p + 2 < high + 1 → LeadsBetween low high p (Visit j i a)
  visit_route p j i a h = omega (arith, h)

  visits_route : (j i : ℕ) (later : List Primitive) (rest : List Spot) (p : ℕ) → AllRoom (length rest) later
      → p + (2 * length later + length rest) ≤ high + 1
      → RouteFrom (p + 2 * length later) rest → RouteFrom p (visits j i later ++ rest)
  visits_route = visits_lead (LeadsBetween low high) (high + 1) visit_route asked_route

  module _ (policy : PlainPolicy) (parts : List Part) where
    call_route : (split : Bool) (p j f l : ℕ) → IsBetween low high l → RouteFrom p (Call j f l ∷ cond split (SplitCall j f l ∷ []) [])
    call_route true p j f l h = (h, (h, tt))
    call_route false p j f l h = (h, tt)

    -- where a point leads, its first position leads there
    at_between : (at : ℕ → ℕ) (from last : ℕ) → ((k : ℕ) → IsBetween from last k → IsBetween low high (at k)) → (o : Option ℕ)
        → GoesTo from last o → IsBetween low high (to at o)
    at_between at from last lands None h = absurd h
    at_between at from last lands (Some k) h = lands k h

    point_route : (at : ℕ → ℕ) (from last : ℕ) → ((k : ℕ) → IsBetween from last k → IsBetween low high (at k))
        → (w : Point) (f j : ℕ) (a b : Option ℕ) (p : ℕ)
        → Goes from last w a b → p + width policy parts w ≤ high + 1
        → RouteFrom p (visits j 0 (primitives_at policy parts w) ++ free parts w f j (to at a) (to at b))
    point_route at from last lands point.Entry f j a b p g h =
        visits_route j 0 (primitives policy false) (free parts point.Entry f j (to at a) (to at b)) p (primitives_room policy false 1 refl)
        (omega arith) (at_between at from last lands a g, tt)
    point_route at from last lands point.Step f j a b p g h = (at_between at from last lands a g, tt)
    point_route at from last lands point.Branch f j a b p g h = ((at_between at from last lands a g.0, at_between at from last lands b g.1), tt)
    point_route at from last lands (point.Label m) f j a b p g h =
        visits_route j 0 (primitives policy false) (free parts (point.Label m) f j (to at a) (to at b)) p (primitives_room policy false 1 refl)
        (omega arith) (at_between at from last lands a g, tt)
    point_route at from last lands (point.Open d) f j a b p g h = (at_between at from last lands a g, tt)
    point_route at from last lands (point.Close d) f j a b p g h = (at_between at from last lands a g, tt)
    point_route at from last lands (point.Call m) f j a b p g h =
        let rest = free parts (point.Call m) f j (to at a) (to at b) in
        let n : length rest ≡ 1 + cond (is_split parts m) 1 0 = call_length (is_split parts m) (Call j m (to at a)) (SplitCall j m (to at a)) in
        visits_route j 0 (primitives policy (is_split parts m)) rest p (primitives_room policy (is_split parts m) (length rest) n) (omega (arith, n))
        (call_route (is_split parts m) (p + 2 * length (primitives policy (is_split parts m))) j m (to at a) (at_between at from last lands a g))
    point_route at from last lands point.Exit f j a b p g h = (tt, tt)

-- The points from one to another lead to such points; at the last an exit stands. So their positions lead to theirs.
module _ (policy : PlainPolicy) (parts : List Part) (ns : List Node) (from last : ℕ) (exit : Node) (ends : slice_get ns last ≡ Some exit)
    (is_exit : exit.point ≡ point.Exit)
    (stay : (p : ℕ) (n : Node) → slice_get ns p ≡ Some n → IsBetween from last p → NodeGoes from last n) where
  abbrev w : Node → ℕ
  w n = width policy parts n.point

  abbrev at : ℕ → ℕ
  at = base policy parts ns

  last_one : base policy parts ns (last + 1) ≡ base policy parts ns last + 1
  last_one = begin_more w ns last exit ends ∙ ap (λ k. base policy parts ns last + width policy parts k) is_exit

  pub positions_stay : (q : ℕ) (s : Spot) → slice_get (spots_in policy parts ns) q ≡ Some s
      → IsBetween (base policy parts ns from) (base policy parts ns last) q
      → LeadsBetween (base policy parts ns from) (base policy parts ns last) q s
  positions_stay q s e b =
      let r = found (spots_at policy parts at) w (width_at policy parts at) ns q s e in
      let n = r.1 in
      let inside = slice_get_within (spots_at policy parts at n) r.2 s r.4 in
      let wide = width_at policy parts at n in
      let next = begin_more w ns r.0 n r.3 in
      let here : at r.0 ≤ q = omega (arith, r.5) in
      let ahead : q < at (r.0 + 1) = omega (arith, r.5, inside, wide, next) in
      let low : from ≤ r.0 = not_below from r.0 (λ l. let m = rise w ns (r.0 + 1) from (omega (arith, l)) in omega (arith, m, ahead, b.0)) in
      let top : r.0 ≤ last = not_below r.0 last (λ l. let m = rise w ns (last + 1) r.0 (omega (arith, l)) in omega
      (arith, m, last_one, here, b.1)) in
      let room = rise w ns (r.0 + 1) (last + 1) (omega (arith, top)) in
      let lands : (k : ℕ) → IsBetween from last k → IsBetween (at from) (at last) (at k) = λ k h. (rise w ns from k h.0, rise w ns k last h.1) in
      let all = point_route (at from) (at last) policy parts at from last lands n.point n.function (number n.seam) (first_of n.next)
      (second_of n.next) (at r.0) (stay r.0 n r.3 (low, top))
      (omega (arith, room, next, last_one)) in
      subst (λ p. LeadsBetween (at from) (at last) p s) (sym r.5) (route_at (at from) (at last) (at r.0) (spots_at policy parts at n) r.2 s all r.4)

  -- an exit stands at the position of the last point
  pub exits_alone : ((p : ℕ) (n : Node) → slice_get ns p ≡ Some n → IsBetween from last p → goes_on n.point ≡ false → p ≡ last)
      → (q f : ℕ) → slice_get (spots_in policy parts ns) q ≡ Some (Exit f) → IsBetween (base policy parts ns from) (base policy parts ns last) q
      → q ≡ base policy parts ns last
  exits_alone alone q f e b =
      let r = found (spots_at policy parts at) w (width_at policy parts at) ns q (Exit f) e in
      let n = r.1 in
      let inside = slice_get_within (spots_at policy parts at n) r.2 (Exit f) r.4 in
      let wide = width_at policy parts at n in
      let next = begin_more w ns r.0 n r.3 in
      let here : at r.0 ≤ q = omega (arith, r.5) in
      let ahead : q < at (r.0 + 1) = omega (arith, r.5, inside, wide, next) in
      let low : from ≤ r.0 = not_below from r.0 (λ l. let m = rise w ns (r.0 + 1) from (omega (arith, l)) in omega (arith, m, ahead, b.0)) in
      let top : r.0 ≤ last = not_below r.0 last (λ l. let m = rise w ns (last + 1) r.0 (omega (arith, l)) in omega
      (arith, m, last_one, here, b.1)) in
      let ex = exit_point parts (primitives_at policy parts n.point) n.point n.function (number n.seam) (to at (first_of n.next)) (to at (second_of n.next)) r.2 f r.4 in
      let z : r.0 ≡ last = alone r.0 n r.3 (low, top) ex in
      let low2 : at last ≤ q = subst (λ k. at k ≤ q) z here in
      omega (arith, low2, b.1)
