-- What stands at a position is of its point.
use Rattle.std.proofs.Common.{◌≡◌, ℕ, zero, suc, ◌+◌, List, [], ◌∷◌, Bool, true, false, cond, Some, refl, sym, ◌∙◌, subst, arith, ⊎_elim, zero-add}
use Rattle.std.specs.Prelude.{slice_get}
use Rattle.std.proofs.lemmas.Option.{none-some, same_Some}
use Rattle.cw_rights.specs.declared.capabilities.Primitive.{Primitive}
use Rattle.cw_rights.specs.Policies.{PlainPolicy}
use Rattle.cw_game.specs.declared.spots.Spot.{Spot}
use Rattle.cw_game.specs.declared.spots.Spot.TheVariants as spot
use Rattle.cw_points.specs.declared.graph.Point.{Point}
use Rattle.cw_points.specs.declared.graph.Point.TheVariants as point
use Rattle.cw_points.specs.declared.graph.Node.{Node}
use Rattle.cw_points.specs.declared.graph.Part.{Part}
use Rattle.cw_points.specs.declared.graph.Graph.{Graph}
use Rattle.cw_points.specs.Walks.{first_of, second_of}
use Rattle.cw_positions.specs.Positions.{is_split, primitives_at, width, base, visits, free, number, to, spots_at, spots}
use Rattle.cw_positions.specs.Origins.{IsOf}
use Rattle.cw_positions.proofs.Lengths.{width_at}
use Rattle.cw_positions.proofs.Standing.{found, found_two}

-- the same by the seam's number and what stands at the point
abbrev OfPoint : PlainPolicy → List Part → ℕ → Point → Spot → Type 0
OfPoint policy parts k w (spot.Visit j i a) = (k ≡ j) × (slice_get (primitives_at policy parts w) i ≡ Some a)
OfPoint policy parts k w (spot.Asked j i a) = (k ≡ j) × (slice_get (primitives_at policy parts w) i ≡ Some a)
OfPoint policy parts k w (spot.Label j l next) = (k ≡ j) × (w ≡ point.Label l)
OfPoint policy parts k w (spot.Open j d next) = (k ≡ j) × (w ≡ point.Open d)
OfPoint policy parts k w (spot.Close j d next) = (k ≡ j) × (w ≡ point.Close d)
OfPoint policy parts k w (spot.Call j f next) = (k ≡ j) × (w ≡ point.Call f)
OfPoint policy parts k w (spot.SplitCall j f next) = (k ≡ j) × (w ≡ point.Call f)
OfPoint policy parts k w (spot.Branch left right) = w ≡ point.Branch
OfPoint policy parts k w (spot.Exit f) = w ≡ point.Exit
OfPoint policy parts k w (spot.Step next) = Unit {0}

-- a visit, or what is asked there, of the primitives from a stage on
abbrev VisitOf : ℕ → ℕ → List Primitive → Spot → Type 0
VisitOf k first later (spot.Visit j i a) = (k ≡ j) × ((m : ℕ) × (i ≡ first + m) × (slice_get later m ≡ Some a))
VisitOf k first later (spot.Asked j i a) = (k ≡ j) × ((m : ℕ) × (i ≡ first + m) × (slice_get later m ≡ Some a))
VisitOf k first later _ = ⊥

visit_later : (k first : ℕ) (a : Primitive) (later : List Primitive) (s : Spot) → VisitOf k (suc first) later s → VisitOf k first (a ∷ later) s
visit_later k first a later (spot.Visit j i b) h = let z : i ≡ first + suc h.1.0 = omega (arith, h.1.1) in (h.0, (suc h.1.0, z, h.1.2))
visit_later k first a later (spot.Asked j i b) h = let z : i ≡ first + suc h.1.0 = omega (arith, h.1.1) in (h.0, (suc h.1.0, z, h.1.2))
visit_later k first a later (spot.Label j l next) h = absurd h
visit_later k first a later (spot.Open j d next) h = absurd h
visit_later k first a later (spot.Close j d next) h = absurd h
visit_later k first a later (spot.Call j f next) h = absurd h
visit_later k first a later (spot.SplitCall j f next) h = absurd h
visit_later k first a later (spot.Branch left right) h = absurd h
visit_later k first a later (spot.Exit f) h = absurd h
visit_later k first a later (spot.Step next) h = absurd h

of_visits : (k first : ℕ) (later : List Primitive) (i : ℕ) (s : Spot) → slice_get (visits k first later) i ≡ Some s → VisitOf k first later s
of_visits k first [] i s e = absurd (none-some s e)
of_visits k first (a ∷ later) zero s e =
    let z : first ≡ first + 0 = omega arith in
    subst (VisitOf k first (a ∷ later)) (same_Some (spot.Visit k first a) s e) (refl, (0, z, refl))
of_visits k first (a ∷ later) (suc zero) s e =
    let z : first ≡ first + 0 = omega arith in
    subst (VisitOf k first (a ∷ later)) (same_Some (spot.Asked k first a) s e) (refl, (0, z, refl))
of_visits k first (a ∷ later) (suc (suc i)) s e = visit_later k first a later s (of_visits k (suc first) later i s e)

module _ (policy : PlainPolicy) (parts : List Part) where
  visit_of : (k : ℕ) (w : Point) (s : Spot) → VisitOf k 0 (primitives_at policy parts w) s → OfPoint policy parts k w s
  visit_of k w (spot.Visit j i a) h =
      let z : h.1.0 ≡ i = sym (h.1.1 ∙ zero-add h.1.0) in
      (h.0, subst (λ m. slice_get (primitives_at policy parts w) m ≡ Some a) z h.1.2)
  visit_of k w (spot.Asked j i a) h =
      let z : h.1.0 ≡ i = sym (h.1.1 ∙ zero-add h.1.0) in
      (h.0, subst (λ m. slice_get (primitives_at policy parts w) m ≡ Some a) z h.1.2)
  visit_of k w (spot.Label j l next) h = absurd h
  visit_of k w (spot.Open j d next) h = absurd h
  visit_of k w (spot.Close j d next) h = absurd h
  visit_of k w (spot.Call j f next) h = absurd h
  visit_of k w (spot.SplitCall j f next) h = absurd h
  visit_of k w (spot.Branch left right) h = absurd h
  visit_of k w (spot.Exit f) h = absurd h
  visit_of k w (spot.Step next) h = absurd h

  -- the only one
  one : (k : ℕ) (w : Point) (t : Spot) → OfPoint policy parts k w t → (i : ℕ) (s : Spot) → slice_get (t ∷ []) i ≡ Some s → OfPoint policy parts k w s
  one k w t h zero s e = subst (OfPoint policy parts k w) (same_Some t s e) h
  one k w t h (suc i) s e = absurd (none-some s e)

  call_of : (k f l : ℕ) (split : Bool) (i : ℕ) (s : Spot) → slice_get (spot.Call k f l ∷ cond split (spot.SplitCall k f l ∷ []) []) i ≡ Some s
      → OfPoint policy parts k (point.Call f) s
  call_of k f l split zero s e = subst (OfPoint policy parts k (point.Call f)) (same_Some (spot.Call k f l) s e) (refl, refl)
  call_of k f l true (suc i) s e = one k (point.Call f) (spot.SplitCall k f l) (refl, refl) i s e
  call_of k f l false (suc i) s e = absurd (none-some s e)

  free_of : (k : ℕ) (w : Point) (f l r i : ℕ) (s : Spot) → slice_get (free parts w f k l r) i ≡ Some s → OfPoint policy parts k w s
  free_of k point.Entry f l r i s e = one k point.Entry (spot.Step l) tt i s e
  free_of k point.Step f l r i s e = one k point.Step (spot.Step l) tt i s e
  free_of k point.Branch f l r i s e = one k point.Branch (spot.Branch l r) refl i s e
  free_of k (point.Label m) f l r i s e = one k (point.Label m) (spot.Label k m l) (refl, refl) i s e
  free_of k (point.Open d) f l r i s e = one k (point.Open d) (spot.Open k d l) (refl, refl) i s e
  free_of k (point.Close d) f l r i s e = one k (point.Close d) (spot.Close k d l) (refl, refl) i s e
  free_of k (point.Call m) f l r i s e = call_of k m l (is_split parts m) i s e
  free_of k point.Exit f l r i s e = one k point.Exit (spot.Exit f) refl i s e

  -- back at the node
  is_of : (n : Node) (s : Spot) → OfPoint policy parts (number n.seam) n.point s → IsOf policy parts n s
  is_of n (spot.Visit j i a) h = h
  is_of n (spot.Asked j i a) h = h
  is_of n (spot.Label j l next) h = h
  is_of n (spot.Open j d next) h = h
  is_of n (spot.Close j d next) h = h
  is_of n (spot.Call j f next) h = h
  is_of n (spot.SplitCall j f next) h = h
  is_of n (spot.Branch left right) h = h
  is_of n (spot.Exit f) h = h
  is_of n (spot.Step next) h = tt

  pub spot_of : (at : ℕ → ℕ) (n : Node) (i : ℕ) (s : Spot) → slice_get (spots_at policy parts at n) i ≡ Some s → IsOf policy parts n s
  spot_of at n i s e =
      let k = number n.seam in
      let a = visits k 0 (primitives_at policy parts n.point) in
      let b = free parts n.point n.function k (to at (first_of n.next)) (to at (second_of n.next)) in
      is_of n s (⊎_elim (λ y. visit_of k n.point s (of_visits k 0 (primitives_at policy parts n.point) i s y))
      (λ y. free_of k n.point n.function (to at (first_of n.next)) (to at (second_of n.next)) y.0 s y.1) (found_two a b i s e))

pub positions_are_of_points : (g : Graph) (policy : PlainPolicy) (q : ℕ) (s : Spot) → slice_get (spots g policy) q ≡ Some s
    → (p : ℕ) × (n : Node) × (slice_get g.nodes.items p ≡ Some n) × IsOf policy g.parts.items n s
positions_are_of_points g policy q s e =
    let parts = g.parts.items in
    let at = base policy parts g.nodes.items in
    let r = found (spots_at policy parts at) (λ (m : Node). width policy parts m.point) (width_at policy parts at) g.nodes.items q s e in
    (r.0, r.1, r.3, spot_of policy parts at r.1 r.2 s r.4)
