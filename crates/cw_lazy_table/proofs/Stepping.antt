-- Nothing but the try of a visit leads to what is asked.
use Rattle.std.proofs.Common.{◌≡◌, ℕ, zero, suc, ◌+◌, List, [], ◌∷◌, ◌++◌, Bool, true, false, cond, length, map, take, Option, Some, None, refl, sym, ap, ◌∙◌, subst, arith, inl, inr}
use Rattle.std.specs.Prelude.{slice_get, Contains}
use Rattle.std.specs.List.{sum_by}
use Rattle.std.proofs.lemmas.Bool.{cases_lt}
use Rattle.std.proofs.lemmas.Option.{none-some, same_Some, slice_get_within}
use Rattle.cw_rights.specs.declared.capabilities.Limit.{Limit as ALimit}
use Rattle.cw_rights.specs.declared.capabilities.Primitive.{Primitive}
use Rattle.cw_rights.specs.declared.capabilities.Primitive.TheVariants.{Limit, Enter, Split}
use Rattle.cw_rights.specs.Policies.{PlainPolicy}
use Rattle.cw_game.specs.declared.spots.Spot.{Spot}
use Rattle.cw_game.specs.declared.spots.Spot.TheVariants as spot
use Rattle.cw_game.specs.Games.{weavers_in}
use Rattle.cw_points.specs.declared.graph.Point.{Point}
use Rattle.cw_points.specs.declared.graph.Point.TheVariants as point
use Rattle.cw_points.specs.declared.graph.Node.{Node}
use Rattle.cw_points.specs.declared.graph.Part.{Part}
use Rattle.cw_points.specs.Walks.{first_of, second_of}
use Rattle.cw_positions.specs.Positions.{is_split, primitives_at, width, base, visits, free, number, to, spots_at, spots_in}
use Rattle.cw_positions.proofs.Begins.{begin_more}
use Rattle.cw_lemmas.proofs.Lists.{get_below}
use Rattle.cw_positions.proofs.Lengths.{width_at, length_all}
use Rattle.cw_positions.proofs.Standing.{found}
use Rattle.cw_product.proofs.Placing.{rise}
use Rattle.cw_product.specs.Routed.{targets}
use Rattle.cw_solve.proofs.Spotting.{one_is, two_are}
use Rattle.cw_lazy_table.proofs.Staging.{is_quiet, AreQuiet, free_there, no_asked, front_in, front_there, quiet_seam_key, rest_of, rest_quiet, of_point, front_unasked}

-- a split is the last primitive, if any is
abbrev SplitLast : List Primitive → Type 0
SplitLast [] = Unit {0}
SplitLast (a ∷ ps) = (a ≡ Split → ps ≡ []) × SplitLast ps

limits_last : (limits : List ALimit) (b : Bool) → SplitLast (map (λ limit. Limit limit) limits ++ Enter ∷ cond b (Split ∷ []) [])
limits_last [] true = (λ e. cc, ((λ e. refl), tt))
limits_last [] false = (λ e. cc, tt)
limits_last (l ∷ ls) b = (λ e. cc, limits_last ls b)

split_is_last : (policy : PlainPolicy) (parts : List Part) (w : Point) → SplitLast (primitives_at policy parts w)
split_is_last policy parts point.Entry = limits_last policy.limits false
split_is_last policy parts point.Step = tt
split_is_last policy parts point.Branch = tt
split_is_last policy parts (point.Label l) = limits_last policy.limits false
split_is_last policy parts (point.Open d) = tt
split_is_last policy parts (point.Close d) = tt
split_is_last policy parts (point.Call f) = limits_last policy.limits (is_split parts f)
split_is_last policy parts point.Exit = tt

abbrev prim_of : Spot → Primitive
prim_of (spot.Asked j i a) = a
prim_of _ = Enter

module _ (rest : List Spot) (quiet : AreQuiet rest) where
  -- something stands behind what is asked, which isn't asked
  after_there : (j i : ℕ) (ps : List Primitive) (x : Spot) → slice_get rest 0 ≡ Some x → (k y z : ℕ) (a : Primitive) → slice_get (visits j i ps ++ rest) k ≡ Some (spot.Asked y z a)
      → (s : Spot) × (slice_get (visits j i ps ++ rest) (suc k) ≡ Some s)
  after_there j i [] x e k y z a h = absurd (no_asked rest quiet k y z a h)
  after_there j i (b ∷ ps) x e zero y z a h = let v : spot.Visit j i b ≡ spot.Asked y z a = same_Some (spot.Visit j i b) (spot.Asked y z a) h in cc
  after_there j i (b ∷ ps) x e (suc zero) y z a h = front_there rest quiet j (suc i) ps x e
  after_there j i (b ∷ ps) x e (suc (suc k)) y z a h = after_there j (suc i) ps x e k y z a h

  after_in : (j i : ℕ) (ps : List Primitive) (k x y z w : ℕ) (a b : Primitive) → slice_get (visits j i ps ++ rest) k ≡ Some (spot.Asked x y a)
      → slice_get (visits j i ps ++ rest) (suc k) ≡ Some (spot.Asked z w b) → ⊥
  after_in j i [] k x y z w a b e f = no_asked rest quiet k x y a e
  after_in j i (c ∷ ps) zero x y z w a b e f = let v : spot.Visit j i c ≡ spot.Asked x y a = same_Some (spot.Visit j i c) (spot.Asked x y a) e in cc
  after_in j i (c ∷ ps) (suc zero) x y z w a b e f = front_in rest quiet j (suc i) ps z w b f
  after_in j i (c ∷ ps) (suc (suc k)) x y z w a b e f = after_in j (suc i) ps k x y z w a b e f

  -- behind a split that is asked nothing else is
  past_split : (j i : ℕ) (ps : List Primitive) → SplitLast ps → (k x y z w : ℕ) (b : Primitive) → slice_get (visits j i ps ++ rest) k ≡ Some (spot.Asked x y Split)
      → slice_get (visits j i ps ++ rest) (suc (suc k)) ≡ Some (spot.Asked z w b) → ⊥
  past_split j i [] l k x y z w b e f = no_asked rest quiet k x y Split e
  past_split j i (c ∷ ps) l zero x y z w b e f = let v : spot.Visit j i c ≡ spot.Asked x y Split = same_Some (spot.Visit j i c) (spot.Asked x y Split) e in cc
  past_split j i (c ∷ []) l (suc zero) x y z w b e f = no_asked rest quiet 1 z w b f
  past_split j i (c ∷ d ∷ ps) l (suc zero) x y z w b e f =
      let v : d ∷ ps ≡ [] = l.0 (ap prim_of (same_Some (spot.Asked j i c) (spot.Asked x y Split) e)) in cc
  past_split j i (c ∷ ps) l (suc (suc k)) x y z w b e f = past_split j (suc i) ps l.1 k x y z w b e f

-- what stands there goes on where P holds
abbrev GoesOn : (ℕ → Type 0) → Spot → Type 0
GoesOn P (spot.Visit j i a) = Unit {0}
GoesOn P (spot.Asked j i a) = Unit {0}
GoesOn P (spot.Step n) = P n
GoesOn P (spot.Branch m n) = P m × P n
GoesOn P (spot.Label j l n) = P n
GoesOn P (spot.Open j d n) = P n
GoesOn P (spot.Close j d n) = P n
GoesOn P (spot.Call j f n) = P n
GoesOn P (spot.SplitCall j f n) = P n
GoesOn P (spot.Exit f) = Unit {0}

module _ (P : ℕ → Type 0) where
  one_goes : (s : Spot) → GoesOn P s → (k : ℕ) (t : Spot) → slice_get (s ∷ []) k ≡ Some t → GoesOn P t
  one_goes s h zero t e = subst (GoesOn P) (same_Some s t e) h
  one_goes s h (suc k) t e = absurd (none-some t e)

  two_go : (b : Bool) (s t : Spot) → GoesOn P s → GoesOn P t → (k : ℕ) (u : Spot) → slice_get (s ∷ cond b (t ∷ []) []) k ≡ Some u → GoesOn P u
  two_go b s t h m zero u e = subst (GoesOn P) (same_Some s u e) h
  two_go true s t h m (suc k) u e = one_goes t m k u e
  two_go false s t h m (suc k) u e = absurd (none-some u e)

  free_goes : (parts : List Part) (w : Point) (f j l r : ℕ) → P l → P r → (k : ℕ) (s : Spot) → slice_get (free parts w f j l r) k ≡ Some s → GoesOn P s
  free_goes parts point.Entry f j l r h m = one_goes (spot.Step l) h
  free_goes parts point.Step f j l r h m = one_goes (spot.Step l) h
  free_goes parts point.Branch f j l r h m = one_goes (spot.Branch l r) (h, m)
  free_goes parts (point.Label n) f j l r h m = one_goes (spot.Label j n l) h
  free_goes parts (point.Open d) f j l r h m = one_goes (spot.Open j d l) h
  free_goes parts (point.Close d) f j l r h m = one_goes (spot.Close j d l) h
  free_goes parts (point.Call c) f j l r h m = two_go (is_split parts c) (spot.Call j c l) (spot.SplitCall j c l) h h
  free_goes parts point.Exit f j l r h m = one_goes (spot.Exit f) tt

  target_goes : (q : ℕ) (s : Spot) → is_quiet s ≡ true → GoesOn P s → (r : ℕ) → Contains (targets q (Some s)) r → P r
  target_goes q (spot.Visit j i a) e h r c = absurd (cc)
  target_goes q (spot.Asked j i a) e h r c = absurd (cc)
  target_goes q (spot.Step n) e h r c = one_is P n r h c
  target_goes q (spot.Branch m n) e h r c = two_are P m n r h.0 h.1 c
  target_goes q (spot.Label j l n) e h r c = one_is P n r h c
  target_goes q (spot.Open j d n) e h r c = one_is P n r h c
  target_goes q (spot.Close j d n) e h r c = one_is P n r h c
  target_goes q (spot.Call j f n) e h r c = one_is P n r h c
  target_goes q (spot.SplitCall j f n) e h r c = one_is P n r h c
  target_goes q (spot.Exit f) e h r c = absurd (omega (arith, c.1))

module _ (policy : PlainPolicy) (parts : List Part) (ns : List Node) where
  abbrev at : ℕ → ℕ
  at = base policy parts ns

  abbrev ss : List Spot
  ss = spots_in policy parts ns

  -- nothing is asked there
  abbrev pub IsUnasked : ℕ → Type 0
  IsUnasked p = (x y : ℕ) (b : Primitive) → slice_get (spots_in policy parts ns) p ≡ Some (spot.Asked x y b) → ⊥

  -- nor where a point begins, or all have ended
  begin_unasked : (p : ℕ) → IsUnasked (at p)
  begin_unasked p x y b e =
      elim (cases_lt p (length ns)) [
        | inl lt ↦ let n = get_below ns p lt in front_unasked policy parts ns p n.0 x y b n.1 e
        | inr ge ↦
            let le = rise (λ (n : Node). width policy parts n.point) ns (length ns) p (omega (arith, ge)) in
            let all = length_all policy parts at ns in
            let lt = slice_get_within ss (at p) (spot.Asked x y b) e in
            absurd (omega (arith, le, all, lt))
      ]

  first_zero : (ms : List Node) → sum_by (λ (n : Node). width policy parts n.point) (take 0 ms) ≡ 0
  first_zero [] = refl
  first_zero (m ∷ ms) = refl

  pub to_unasked : (o : Option ℕ) → IsUnasked (to at o)
  to_unasked (Some p) = begin_unasked p
  to_unasked None = subst IsUnasked (first_zero ns) (begin_unasked 0)

  -- what stands at q stands in a point, and what is behind it there too
  module _ (q : ℕ) (s : Spot) (is : slice_get (spots_in policy parts ns) q ≡ Some s) where
    abbrev at_point : (p : ℕ) × (n : Node) × (i : ℕ) × (slice_get ns p ≡ Some n) × (slice_get (spots_at policy parts at n) i ≡ Some s) × (q ≡ at p + i)
    at_point = found (spots_at policy parts at) (λ (m : Node). width policy parts m.point) (width_at policy parts at) ns q s is

    abbrev node : Node
    node = at_point.1

    abbrev rest : List Spot
    rest = rest_of policy parts ns node

    abbrev quiet : AreQuiet rest
    quiet = rest_quiet policy parts ns node

    free_first : (x : Spot) × (slice_get rest 0 ≡ Some x)
    free_first = free_there parts node.point node.function (number node.seam) (to at (first_of node.next)) (to at (second_of node.next))

    -- what stands some places on in the point
    here : (d : ℕ) (t : Spot) → slice_get (spots_at policy parts at node) (at_point.2 + d) ≡ Some t → slice_get ss (q + d) ≡ Some t
    here d t e =
        let z : at at_point.0 + (at_point.2 + d) ≡ q + d = omega (arith, at_point.5) in
        sym (ap (slice_get ss) z) ∙ of_point policy parts ns at_point.0 node (at_point.2 + d) t at_point.3 e

    -- behind the last place of a point the next one begins
    next : (d : ℕ) → width policy parts node.point ≡ at_point.2 + d → q + d ≡ at (at_point.0 + 1)
    next d e =
        let more = begin_more (λ (m : Node). width policy parts m.point) ns at_point.0 node at_point.3 in
        omega (arith, more, e, at_point.5)

    jumps_unasked : is_quiet s ≡ true → (r : ℕ) → Contains (targets q (Some s)) r → IsUnasked r
    jumps_unasked e r c =
        let k = quiet_seam_key rest quiet (number node.seam) 0 (primitives_at policy parts node.point) at_point.2 s e at_point.4 in
        let goes = free_goes IsUnasked parts node.point node.function (number node.seam) (to at (first_of node.next)) (to at (second_of node.next))
        (to_unasked (first_of node.next)) (to_unasked (second_of node.next)) k.0 s k.2 in
        target_goes IsUnasked q s e goes r c

  asked_next : (q j i : ℕ) (a : Primitive) → slice_get (spots_in policy parts ns) q ≡ Some (spot.Asked j i a) → IsUnasked (q + 1)
  asked_next q j i a is x y b e =
      let s = spot.Asked j i a in
      let r = at_point q s is in
      let n = r.1 in
      let ps = primitives_at policy parts n.point in
      let u = free_first q s is in
      let v = after_there (rest_of policy parts ns n) (rest_quiet policy parts ns n) (number n.seam) 0 ps u.0 u.1 r.2 j i a r.4 in
      let z : r.2 + 1 ≡ suc r.2 = omega arith in
      let same : v.0 ≡ spot.Asked x y b = same_Some v.0 (spot.Asked x y b) (sym (here q s is 1 v.0 (ap (slice_get (spots_at policy parts at n)) z ∙ v.1)) ∙ e) in
      after_in (rest_of policy parts ns n) (rest_quiet policy parts ns n) (number n.seam) 0 ps r.2 j i x y a b r.4 (v.1 ∙ ap Some same)

  split_next : (q j i : ℕ) → slice_get (spots_in policy parts ns) q ≡ Some (spot.Asked j i Split) → IsUnasked (q + 2)
  split_next q j i is x y b e =
      let s = spot.Asked j i Split in
      let r = at_point q s is in
      let n = r.1 in
      let ps = primitives_at policy parts n.point in
      let all = spots_at policy parts at n in
      let u = free_first q s is in
      let v = after_there (rest_of policy parts ns n) (rest_quiet policy parts ns n) (number n.seam) 0 ps u.0 u.1 r.2 j i Split r.4 in
      let room = slice_get_within all (suc r.2) v.0 v.1 in
      let wide = width_at policy parts at n in
      elim (cases_lt (r.2 + 2) (length all)) [
        | inl lt ↦
            let t = get_below all (r.2 + 2) lt in
            let same : t.0 ≡ spot.Asked x y b = same_Some t.0 (spot.Asked x y b) (sym (here q s is 2 t.0 t.1) ∙ e) in
            let z : r.2 + 2 ≡ suc (suc r.2) = omega arith in
            past_split (rest_of policy parts ns n) (rest_quiet policy parts ns n) (number n.seam) 0 ps (split_is_last policy parts n.point) r.2 j i x y b r.4
            (sym (ap (slice_get all) z) ∙ t.1 ∙ ap Some same)
        | inr ge ↦
            let z : q + 2 ≡ at (r.0 + 1) = next q s is 2 (omega (arith, ge, room, wide)) in
            subst IsUnasked (sym z) (begin_unasked (r.0 + 1)) x y b e
      ]

  -- what isn't a visit leads to nothing that is asked
  pub move_unasked : (q r : ℕ) (o : Option Spot) → slice_get (spots_in policy parts ns) q ≡ o → weavers_in o ≡ false → Contains (targets q o) r → IsUnasked r
  move_unasked q r None is w c = absurd (omega (arith, c.1))
  move_unasked q r (Some (spot.Visit j i a)) is w c = absurd (cc)
  move_unasked q r (Some (spot.Asked j i Split)) is w c = two_are IsUnasked (q + 2) (q + 1) r (split_next q j i is) (asked_next q j i Split is) c
  move_unasked q r (Some (spot.Asked j i Enter)) is w c = one_is IsUnasked (q + 1) r (asked_next q j i Enter is) c
  move_unasked q r (Some (spot.Asked j i (Limit n))) is w c = one_is IsUnasked (q + 1) r (asked_next q j i (Limit n) is) c
  move_unasked q r (Some (spot.Step n)) is w c = jumps_unasked q (spot.Step n) is refl r c
  move_unasked q r (Some (spot.Branch m n)) is w c = jumps_unasked q (spot.Branch m n) is refl r c
  move_unasked q r (Some (spot.Label j l n)) is w c = jumps_unasked q (spot.Label j l n) is refl r c
  move_unasked q r (Some (spot.Open j d n)) is w c = jumps_unasked q (spot.Open j d n) is refl r c
  move_unasked q r (Some (spot.Close j d n)) is w c = jumps_unasked q (spot.Close j d n) is refl r c
  move_unasked q r (Some (spot.Call j f n)) is w c = jumps_unasked q (spot.Call j f n) is refl r c
  move_unasked q r (Some (spot.SplitCall j f n)) is w c = jumps_unasked q (spot.SplitCall j f n) is refl r c
  move_unasked q r (Some (spot.Exit f)) is w c = jumps_unasked q (spot.Exit f) is refl r c
