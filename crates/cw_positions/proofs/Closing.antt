-- Positions lead to positions that there are.
use Rattle.std.proofs.Common.{◌≡◌, ℕ, zero, suc, ◌+◌, ◌*◌, ◌<◌, ◌≤◌, List, [], ◌∷◌, ◌++◌, Bool, true, false, cond, length, map, Option, Some, None}
use Rattle.std.proofs.Common.{refl, sym, subst, arith, add-zero}
use Rattle.std.specs.Prelude.{slice_get}
use Rattle.std.proofs.lemmas.Option.{none-some, same_Some, slice_get_within}
use Rattle.cw_rights.specs.declared.capabilities.Limit.{Limit as ALimit}
use Rattle.cw_rights.specs.declared.capabilities.Primitive.{Primitive}
use Rattle.cw_rights.specs.declared.capabilities.Primitive.TheVariants.{Limit, Enter, Split}
use Rattle.cw_rights.specs.Policies.{PlainPolicy, primitives}
use Rattle.cw_game.specs.declared.spots.Spot.{Spot}
use Rattle.cw_game.specs.declared.spots.Spot.TheVariants.{Visit, Asked, Call, SplitCall}
use Rattle.cw_points.specs.declared.graph.Point.{Point}
use Rattle.cw_points.specs.declared.graph.Point.TheVariants as point
use Rattle.cw_points.specs.declared.graph.Node.{Node}
use Rattle.cw_points.specs.declared.graph.Part.{Part}
use Rattle.cw_points.specs.Walks.{first_of, second_of}
use Rattle.cw_positions.specs.Positions.{is_split, primitives_at, width, base, visits, free, number, to, spots_at, spots_in}
use Rattle.cw_positions.specs.Closed.{LeadsWithin}
use Rattle.cw_positions.proofs.Begins.{begin_below}
use Rattle.cw_positions.proofs.Lengths.{width_at, length_all}
use Rattle.cw_positions.proofs.Leading.{IsBelow, EachLeads, leads_at}
use Rattle.cw_positions.proofs.Standing.{found}
use Rattle.cw_lemmas.proofs.Lists.{get_below}
use Rattle.cw_positions.proofs.Rooms.{Room, AllRoom, LeadFrom, lead_at, visits_lead, primitives_room, call_length}

-- what is called is a function that is there
abbrev pub CallsWithin : ℕ → Point → Type 0
CallsWithin functions (point.Call f) = f < functions
CallsWithin functions point.Entry = Unit {0}
CallsWithin functions point.Step = Unit {0}
CallsWithin functions point.Branch = Unit {0}
CallsWithin functions (point.Label l) = Unit {0}
CallsWithin functions (point.Open d) = Unit {0}
CallsWithin functions (point.Close d) = Unit {0}
CallsWithin functions point.Exit = Unit {0}

module _ (size functions : ℕ) where
  -- these stand from p on, and lead to positions that there are
  abbrev pub ClosedFrom : ℕ → List Spot → Type 0
  ClosedFrom = LeadFrom (LeadsWithin size functions)

  pub closed_at : (p : ℕ) (ss : List Spot) (i : ℕ) (s : Spot) → ClosedFrom p ss → slice_get ss i ≡ Some s → LeadsWithin size functions (p + i) s
  closed_at = lead_at (LeadsWithin size functions)

  asked_closed : (p j i : ℕ) (a : Primitive) (n : ℕ) → Room n a → p + n < size → LeadsWithin size functions p (Asked j i a)
  asked_closed p j i Split n h e = omega arith
  asked_closed p j i Enter n h e = omega arith
  asked_closed p j i (Limit limit) n h e = omega arith

  -- the visits with what stands behind them
  visits_closed : (j i : ℕ) (later : List Primitive) (rest : List Spot) (p : ℕ) → AllRoom (length rest) later
      → p + (2 * length later + length rest) ≤ size → ClosedFrom (p + 2 * length later) rest
      → ClosedFrom p (visits j i later ++ rest)
  visits_closed = visits_lead (LeadsWithin size functions) size (λ p j i a h. h) asked_closed

  module _ (policy : PlainPolicy) (parts : List Part) where
    call_closed : (split : Bool) (p j f l : ℕ) (s : Spot) → LeadsWithin size functions p s → f < functions → l < size
        → ClosedFrom p (s ∷ cond split (SplitCall j f l ∷ []) [])
    call_closed true p j f l s h e k = (h, ((e, k), tt))
    call_closed false p j f l s h e k = (h, tt)

    -- the positions of a point, where it leads to positions that there are
    pub point_closed : (w : Point) (f j l r p : ℕ) → CallsWithin functions w → l < size → r < size → p + width policy parts w ≤ size
        → ClosedFrom p (visits j 0 (primitives_at policy parts w) ++ free parts w f j l r)
    point_closed point.Entry f j l r p c hl hr h =
        visits_closed j 0 (primitives policy false) (free parts point.Entry f j l r) p (primitives_room policy false 1 refl) (omega arith) (hl, tt)
    point_closed point.Step f j l r p c hl hr h = (hl, tt)
    point_closed point.Branch f j l r p c hl hr h = ((hl, hr), tt)
    point_closed (point.Label m) f j l r p c hl hr h = visits_closed j 0 (primitives policy false) (free parts (point.Label m) f j l r) p
        (primitives_room policy false 1 refl) (omega arith) (hl, tt)
    point_closed (point.Open d) f j l r p c hl hr h = (hl, tt)
    point_closed (point.Close d) f j l r p c hl hr h = (hl, tt)
    point_closed (point.Call m) f j l r p c hl hr h =
        let rest = free parts (point.Call m) f j l r in
        let n : length rest ≡ 1 + cond (is_split parts m) 1 0 = call_length (is_split parts m) (Call j m l) (SplitCall j m l) in
        visits_closed j 0 (primitives policy (is_split parts m)) rest p (primitives_room policy (is_split parts m) (length rest) n) (omega (arith, n))
        (call_closed (is_split parts m) (p + 2 * length (primitives policy (is_split parts m))) j m l (Call j m l) (c, hl) c hl)
    point_closed point.Exit f j l r p c hl hr h = (tt, tt)

module _ (policy : PlainPolicy) (parts : List Part) (ns : List Node) (functions : ℕ) where
  abbrev size : ℕ
  size = length (spots_in policy parts ns)

  -- where the positions of a point begin that there is
  pub base_below : (p : ℕ) → p < length ns → base policy parts ns p < length (spots_in policy parts ns)
  base_below p h =
      let n = get_below ns p h in
      let w = λ (m : Node). width policy parts m.point in
      omega (arith, begin_below w ns p n.0 n.1, length_all policy parts (base policy parts ns) ns)

  pub to_below : (o : Option ℕ) → IsBelow (length ns) o → 0 < length ns → to (base policy parts ns) o < length (spots_in policy parts ns)
  to_below None h some = omega (arith, base_below 0 some)
  to_below (Some p) h some = base_below p h

  pub leads_within : EachLeads (length ns) ns → ((p : ℕ) (n : Node) → slice_get ns p ≡ Some n → CallsWithin functions n.point)
      → (q : ℕ) (s : Spot) → slice_get (spots_in policy parts ns) q ≡ Some s → LeadsWithin (length (spots_in policy parts ns)) functions q s
  leads_within lead calls q s e =
      let w = λ (m : Node). width policy parts m.point in
      let at = base policy parts ns in
      let r = found (spots_at policy parts at) w (width_at policy parts at) ns q s e in
      let n = r.1 in
      let within : r.0 < length ns = slice_get_within ns r.0 n r.3 in
      let some : 0 < length ns = omega arith in
      let l = leads_at (length ns) ns r.0 n lead r.3 in
      let last = begin_below w ns r.0 n r.3 in
      let all = point_closed size functions policy parts n.point n.function (number n.seam) (to at (first_of n.next)) (to at (second_of n.next))
      (at r.0) (calls r.0 n r.3)
      (to_below (first_of n.next) l.0 some) (to_below (second_of n.next) l.1 some) (omega (arith, last, length_all policy parts at ns)) in
      subst (λ p. LeadsWithin size functions p s) (sym r.5) (closed_at size functions (at r.0) (spots_at policy parts at n) r.2 s all r.4)
