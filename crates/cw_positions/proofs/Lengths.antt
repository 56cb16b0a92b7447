-- How many positions a point has, and all points have.
use Rattle.std.proofs.Common.{◌≡◌, ℕ, suc, ◌+◌, ◌*◌, ◌<◌, ◌≤◌, List, [], ◌∷◌, Bool, true, false, cond, length, map, get_or, refl, sym, ap, ◌∙◌}
use Rattle.std.proofs.Common.{subst, arith, length-append}
use Rattle.std.specs.List.{flat_map}
use Rattle.std.proofs.lemmas.List.{length-map}
use Rattle.cw_rights.specs.declared.capabilities.Primitive.{Primitive}
use Rattle.cw_rights.specs.declared.capabilities.Primitive.TheVariants.{Limit, Enter, Split}
use Rattle.cw_rights.specs.Policies.{PlainPolicy, primitives}
use Rattle.cw_game.specs.declared.spots.Spot.TheVariants.{SplitCall}
use Rattle.cw_points.specs.declared.graph.Point.{Point}
use Rattle.cw_points.specs.declared.graph.Point.TheVariants as point
use Rattle.cw_points.specs.declared.graph.Node.{Node}
use Rattle.cw_points.specs.declared.graph.Part.{Part}
use Rattle.cw_points.specs.Walks.{first_of, second_of}
use Rattle.cw_positions.specs.Positions.{is_split, is_split_call, primitives_at, width, base, visits, free, number, to, spots_at, spots_in}
use Rattle.cw_positions.proofs.Begins.{begin_next, begin_small, end_more}

abbrev limits_of : PlainPolicy → List Primitive
limits_of policy = map (λ limit. Limit limit) policy.limits

pub length_primitives : (policy : PlainPolicy) (split : Bool) → length (primitives policy split) ≡ length policy.limits + 1 + cond split 1 0
length_primitives policy true = omega (
  arith,
  length-append (limits_of policy) (Enter ∷ (Split ∷ [])),
  length-map policy.limits
      (λ limit. Limit limit),
)
length_primitives policy false = omega (arith, length-append (limits_of policy) (Enter ∷ []), length-map policy.limits (λ limit. Limit limit))

-- the widths by the number of limits
pub width_seam : (policy : PlainPolicy) (parts : List Part) → 2 * length (primitives policy false) + 1 + 0 ≡ 2 * length policy.limits + 3
width_seam policy parts = omega (arith, length_primitives policy false)

pub width_call : (policy : PlainPolicy) (parts : List Part) (f : ℕ) (split : Bool) → is_split parts f ≡ split
    → width policy parts (point.Call f) ≡ 2 * length policy.limits + 3 + cond split 3 0
width_call policy parts f split e = ap (λ b. 2 * length (primitives policy b) + 1 + cond b 1 0) e ∙ by split
  where
    by : (b : Bool) → 2 * length (primitives policy b) + 1 + cond b 1 0 ≡ 2 * length policy.limits + 3 + cond b 3 0
    by true = omega (arith, length_primitives policy true)
    by false = omega (arith, length_primitives policy false)

pub narrow : (policy : PlainPolicy) (parts : List Part) → length policy.limits ≤ 12 → (w : Point) → width policy parts w ≤ 30
narrow policy parts h point.Entry = omega (arith, width_seam policy parts)
narrow policy parts h point.Step = omega arith
narrow policy parts h point.Branch = omega arith
narrow policy parts h (point.Label l) = omega (arith, width_seam policy parts)
narrow policy parts h (point.Open d) = omega arith
narrow policy parts h (point.Close d) = omega arith
narrow policy parts h (point.Call f) = by (is_split parts f) (width_call policy parts f (is_split parts f) refl)
  where
    by : (b : Bool) → width policy parts (point.Call f) ≡ 2 * length policy.limits + 3 + cond b 3 0 → width policy parts (point.Call f) ≤ 30
    by true e = omega arith
    by false e = omega arith
narrow policy parts h point.Exit = omega arith

pub length_visits : (j i : ℕ) (later : List Primitive) → length (visits j i later) ≡ 2 * length later
length_visits j i [] = refl
length_visits j i (a ∷ later) = omega (arith, length_visits j (suc i) later)

length_free : (parts : List Part) (w : Point) (f j l r : ℕ) → length (free parts w f j l r) ≡ 1 + cond (is_split_call parts w) 1 0
length_free parts point.Entry f j l r = refl
length_free parts point.Step f j l r = refl
length_free parts point.Branch f j l r = refl
length_free parts (point.Label m) f j l r = refl
length_free parts (point.Open d) f j l r = refl
length_free parts (point.Close d) f j l r = refl
length_free parts (point.Call m) f j l r = by (is_split parts m)
  where
    by : (b : Bool) → suc (length (cond b (SplitCall j m l ∷ []) [])) ≡ 1 + cond b 1 0
    by true = refl
    by false = refl
length_free parts point.Exit f j l r = refl

pub width_at : (policy : PlainPolicy) (parts : List Part) (at : ℕ → ℕ) (n : Node) → length (spots_at policy parts at n) ≡ width policy parts n.point
width_at policy parts at n =
    let a = primitives_at policy parts n.point in
    let j = number n.seam in
    let l = to at (first_of n.next) in
    let r = to at (second_of n.next) in
    omega (arith, length-append (visits j 0 a) (free parts n.point n.function j l r), length_visits j 0 a, length_free parts n.point n.function j l r)

-- how many positions there are
pub length_all : (policy : PlainPolicy) (parts : List Part) (at : ℕ → ℕ) (ns : List Node)
    → length (flat_map (spots_at policy parts at) ns) ≡ base policy parts ns (length ns)
length_all policy parts at [] = refl
length_all policy parts at (n ∷ ns) =
    let a = spots_at policy parts at n in
    let b = flat_map (spots_at policy parts at) ns in
    omega (
      arith,
      length-append a b,
      width_at policy parts at n,
      length_all policy parts at ns,
      begin_next
          (λ (m : Node). width policy parts m.point) n ns (length ns),
    )

pub base_small : (policy : PlainPolicy) (parts : List Part) → length policy.limits ≤ 12 → (ns : List Node) (p : ℕ) → base policy parts ns p ≤ 30 * p
base_small policy parts few ns p = begin_small (λ (n : Node). width policy parts n.point) 30 (λ n. narrow policy parts few n.point) ns p

-- a loop over the points, at one of them
pub end_step : (policy : PlainPolicy) (parts qs : List Part) → qs ≡ parts → (ns ms : List Node) → ms ≡ ns → (i end more : ℕ) (d : Node)
    → i < length ms → end ≡ base policy parts ns i
    → more ≡ width policy qs (get_or ms i d).point → end + more ≡ base policy parts ns (i + 1)
end_step policy parts qs eq ns ms em i end more d h e z =
    let w = λ (n : Node). width policy parts n.point in
    let within : i < length ns = subst (λ l. i < length l) em h in
    end_more w ns i end more d within e (z ∙ ap (λ l. width policy l (get_or ms i d).point) eq ∙ ap (λ l. width policy parts (get_or l i d).point) em)

-- all positions, where a loop over the points ends
pub end_all : (policy : PlainPolicy) (parts : List Part) (ns ms : List Node) → ms ≡ ns → (i end : ℕ) → i ≤ length ms → length ms ≤ i
    → end ≡ base policy parts ns i
    → end ≡ length (spots_in policy parts ns)
end_all policy parts ns ms em i end h k e =
    let n : i ≡ length ns = omega (arith, ap length em) in
    e ∙ ap (base policy parts ns) n ∙ sym (length_all policy parts (base policy parts ns) ns)
