-- The item at a position is the front of each board that goes together with a pair there: a stack of frames stands at a point, and its pair at a position of it.
use Rattle.std.proofs.Common.{◌≡◌, ◌⊎◌, ℕ, zero, suc, ◌+◌, ◌<◌, ◌≤◌, List, [], ◌∷◌, ◌++◌, Bool, true, false, cond, Option, Some, None, option_map, option_and_then, map, length, refl, sym, ap, ap₂}
use Rattle.std.proofs.Common.{◌∙◌, subst, inl, inr, ⊎_elim, arith, length-append}
use Rattle.std.specs.Prelude.{slice_get}
use Rattle.std.proofs.lemmas.Option.{none-some, same_Some, slice_get_within, cond_some}
use Rattle.cw_rights.specs.declared.capabilities.Caps.{Caps}
use Rattle.cw_rights.specs.declared.capabilities.Primitive.{Primitive}
use Rattle.cw_rights.specs.declared.capabilities.Primitive.TheVariants.{Limit, Enter, Split}
use Rattle.cw_rights.specs.Policies.{PlainPolicy}
use Rattle.cw_certs.specs.declared.moves.Move.{Move}
use Rattle.cw_certs.specs.declared.moves.Move.TheVariants.{Skip, Try, Grant, Refuse, On, Left, Right, Opened, Failed, Stop}
use Rattle.cw_syntax.specs.Trees.{File}
use Rattle.cw_syntax.specs.Plans.{Open, Close, Call, Label, Routine, Plan, plan_of}
use Rattle.cw_syntax.specs.Frames.{Item, End, Frame, Way, pass, front, start_stack}
use Rattle.cw_syntax.specs.Frames.{On as OnWay, Left as LeftWay, Right as RightWay, Opened as OpenedWay, Failed as FailedWay}
use Rattle.cw_syntax.specs.Runnable.{IsRunnable}
use Rattle.cw_resolve.specs.Scenes.{names_of}
use Rattle.cw_model.specs.Boards.{Problem, Phase, Visit, Asked, Refused, Free, FreeSplit, Over, Board, landed, granted, refused, stepped, may_grant, may_refuse, stop_answers, way_of, moved}
use Rattle.cw_model.proofs.Moving.{granted_stack}
use Rattle.cw_game.specs.declared.spots.Spot.{Spot}
use Rattle.cw_game.specs.declared.spots.Spot.TheVariants as spot
use Rattle.cw_game.specs.Games.{Game, refuses_in, can_stop_in, past_asked, resumed_in, Ret, Config, at_pair, leads_in}
use Rattle.cw_game.specs.Games.{returned as returned_to}
use Rattle.cw_game.specs.Together.{Together, at_start, by_move, by_refusal, by_going_on}
use Rattle.cw_game.proofs.Link.{exit_only}
use Rattle.cw_points.specs.declared.graph.Point.{Point}
use Rattle.cw_points.specs.declared.graph.Point.TheVariants as point
use Rattle.cw_points.specs.declared.graph.Node.{Node}
use Rattle.cw_points.specs.declared.graph.Part.{Part}
use Rattle.cw_points.specs.declared.graph.Graph.{Graph}
use Rattle.cw_points.specs.Points.{points_in_all, points_of, points_from, points, count_from}
use Rattle.cw_points.specs.Graphs.{nodes, IsGraph}
use Rattle.cw_points.specs.Walks.{Stand, stand, first_of, second_of, called, returned, leads, goes}
use Rattle.cw_points.proofs.Held.{points_length_all}
use Rattle.cw_points.proofs.Situated.{IsPart}
use Rattle.cw_points.proofs.Laying.{situated_program}
use Rattle.cw_points.proofs.Ways.{StackAt, Tied}
use Rattle.cw_points.proofs.Passing.{Front, front_at}
use Rattle.cw_points.proofs.Walking.{tied, starts}
use Rattle.cw_positions.specs.Positions.{is_split, primitives_at, width, base, base_of, visits, free, number, to, spots_at, spots}
use Rattle.cw_positions.specs.Closed.{LeadsWithin}
use Rattle.cw_positions.specs.Laid.{IsGameOn}
use Rattle.cw_positions.specs.Items.{IsOfPoint, LeadsAs, StaysIn, IsAtPoint, HasItem, ItemsStand}
use Rattle.cw_positions.proofs.Begins.{begin_next, begin_more}
use Rattle.cw_lemmas.proofs.Lists.{get_below, get_front}
use Rattle.cw_positions.proofs.Closing.{CallsWithin, closed_at, point_closed}
use Rattle.cw_positions.proofs.Leading.{length_nodes}
use Rattle.cw_positions.proofs.Lengths.{width_at}
use Rattle.cw_positions.proofs.Origins.{spot_of}
use Rattle.cw_positions.proofs.Programs.{of_graph}
use Rattle.cw_positions.proofs.Standing.{found, found_two}

-- ---- a point's positions

-- what stands free at a point, and where it leads
abbrev FreeAs : Point → (f l r : ℕ) → Spot → Type 0
FreeAs w f l r (spot.Step k) = ((w ≡ point.Entry) ⊎ (w ≡ point.Step)) × (k ≡ l)
FreeAs w f l r (spot.Branch a b) = (w ≡ point.Branch) × (a ≡ l) × (b ≡ r)
FreeAs w f l r (spot.Label j m k) = (w ≡ point.Label m) × (k ≡ l)
FreeAs w f l r (spot.Open j d k) = (w ≡ point.Open d) × (k ≡ l)
FreeAs w f l r (spot.Close j d k) = (w ≡ point.Close d) × (k ≡ l)
FreeAs w f l r (spot.Call j m k) = (w ≡ point.Call m) × (k ≡ l)
FreeAs w f l r (spot.SplitCall j m k) = (w ≡ point.Call m) × (k ≡ l)
FreeAs w f l r (spot.Exit m) = (w ≡ point.Exit) × (m ≡ f)
FreeAs w f l r (spot.Visit j i a) = ⊥
FreeAs w f l r (spot.Asked j i a) = ⊥

is_visit : Spot → Bool
is_visit (spot.Visit j i a) = true
is_visit (spot.Asked j i a) = true
is_visit _ = false

of_visits : (k first : ℕ) (later : List Primitive) (i : ℕ) (s : Spot) → slice_get (visits k first later) i ≡ Some s → is_visit s ≡ true
unfolding is_visit
of_visits k first [] i s e = absurd (none-some s e)
of_visits k first (a ∷ later) zero s e = sym (ap is_visit (same_Some (spot.Visit k first a) s e))
of_visits k first (a ∷ later) (suc zero) s e = sym (ap is_visit (same_Some (spot.Asked k first a) s e))
of_visits k first (a ∷ later) (suc (suc i)) s e = of_visits k (suc first) later i s e

module _ (parts : List Part) where
  one : (w : Point) (f l r : ℕ) (t : Spot) → FreeAs w f l r t → (i : ℕ) (s : Spot) → slice_get (t ∷ []) i ≡ Some s → FreeAs w f l r s
  one w f l r t h zero s e = subst (FreeAs w f l r) (same_Some t s e) h
  one w f l r t h (suc i) s e = absurd (none-some s e)

  call_free : (k m f l r : ℕ) (split : Bool) (i : ℕ) (s : Spot) → slice_get (spot.Call k m l ∷ cond split (spot.SplitCall k m l ∷ []) []) i ≡ Some s
      → FreeAs (point.Call m) f l r s
  call_free k m f l r split zero s e = subst (FreeAs (point.Call m) f l r) (same_Some (spot.Call k m l) s e) (refl, refl)
  call_free k m f l r true (suc i) s e = one (point.Call m) f l r (spot.SplitCall k m l) (refl, refl) i s e
  call_free k m f l r false (suc i) s e = absurd (none-some s e)

  free_as : (w : Point) (f k l r i : ℕ) (s : Spot) → slice_get (free parts w f k l r) i ≡ Some s → FreeAs w f l r s
  free_as point.Entry f k l r i s e = one point.Entry f l r (spot.Step l) (inl refl, refl) i s e
  free_as point.Step f k l r i s e = one point.Step f l r (spot.Step l) (inr refl, refl) i s e
  free_as point.Branch f k l r i s e = one point.Branch f l r (spot.Branch l r) (refl, refl, refl) i s e
  free_as (point.Label m) f k l r i s e = one (point.Label m) f l r (spot.Label k m l) (refl, refl) i s e
  free_as (point.Open d) f k l r i s e = one (point.Open d) f l r (spot.Open k d l) (refl, refl) i s e
  free_as (point.Close d) f k l r i s e = one (point.Close d) f l r (spot.Close k d l) (refl, refl) i s e
  free_as (point.Call m) f k l r i s e = call_free k m f l r (is_split parts m) i s e
  free_as point.Exit f k l r i s e = one point.Exit f l r (spot.Exit f) (refl, refl) i s e

visit_leads : (at : ℕ → ℕ) (n : Node) (s : Spot) → is_visit s ≡ true → LeadsAs at n s
unfolding is_visit
visit_leads at n (spot.Visit j i a) e = tt
visit_leads at n (spot.Asked j i a) e = tt
visit_leads at n _ e = cc

free_leads : (at : ℕ → ℕ) (n : Node) (s : Spot) → FreeAs n.point n.function (to at (first_of n.next)) (to at (second_of n.next)) s → LeadsAs at n s
free_leads at n (spot.Visit j i a) h = absurd h
free_leads at n (spot.Asked j i a) h = absurd h
free_leads at n (spot.Step k) h = h
free_leads at n (spot.Branch l r) h = h
free_leads at n (spot.Label j l k) h = h
free_leads at n (spot.Open j d k) h = h
free_leads at n (spot.Close j d k) h = h
free_leads at n (spot.Call j f k) h = h
free_leads at n (spot.SplitCall j f k) h = h
free_leads at n (spot.Exit f) h = h

free_quiet : (w : Point) (f l r : ℕ) (s : Spot) → FreeAs w f l r s → is_visit s ≡ false
unfolding is_visit
free_quiet w f l r (spot.Visit j i a) h = absurd h
free_quiet w f l r (spot.Asked j i a) h = absurd h
free_quiet w f l r _ h = refl

called_in : Point → ℕ
called_in (point.Call f) = f
called_in _ = 0

within_called : (w : Point) → CallsWithin (suc (called_in w)) w
unfolding called_in
within_called (point.Call f) = omega arith
within_called point.Entry = tt
within_called point.Step = tt
within_called point.Branch = tt
within_called (point.Label l) = tt
within_called (point.Open d) = tt
within_called (point.Close d) = tt
within_called point.Exit = tt

module _ (g : Graph) (policy : PlainPolicy) where
  abbrev parts : List Part
  parts = g.parts.items

  abbrev at : ℕ → ℕ
  at = base_of g policy

  abbrev wide : Node → ℕ
  wide n = width policy parts n.point

  some_width : (w : Point) → 0 < width policy parts w
  some_width w = omega arith

  -- a place within a point's positions
  of_point : (n : ℕ) (node : Node) → slice_get g.nodes.items n ≡ Some node → (i : ℕ) → i < wide node → IsOfPoint g policy (at n + i) n
  of_point n node e i l = record {
    there = slice_get_within g.nodes.items n node e;
    begun = omega arith;
    before = omega (arith, l, begin_more wide g.nodes.items n node e);
  }

  stays_by : (n : ℕ) (node : Node) → slice_get g.nodes.items n ≡ Some node → (i functions : ℕ) (s : Spot)
      → LeadsWithin (at n + wide node) functions (at n + i) s → is_visit s ≡ true → StaysIn g policy (at n + i) n s
  unfolding is_visit
  stays_by n node e i functions (spot.Visit j k a) h v =
      let one : i + 1 < wide node = omega (arith, h) in
      let two : i + 2 < wide node = omega (arith, h) in
      let f : at n + (i + 1) ≡ at n + i + 1 = omega arith in
      let t : at n + (i + 2) ≡ at n + i + 2 = omega arith in
      (subst (λ q. IsOfPoint g policy q n) f (of_point n node e (i + 1) one), subst (λ q. IsOfPoint g policy q n) t (of_point n node e (i + 2) two))
  stays_by n node e i functions (spot.Asked j k Split) h v =
      let one : i + 1 < wide node = omega (arith, h) in
      let two : i + 2 < wide node = omega (arith, h) in
      let f : at n + (i + 1) ≡ at n + i + 1 = omega arith in
      let t : at n + (i + 2) ≡ at n + i + 2 = omega arith in
      (subst (λ q. IsOfPoint g policy q n) f (of_point n node e (i + 1) one), subst (λ q. IsOfPoint g policy q n) t (of_point n node e (i + 2) two))
  stays_by n node e i functions (spot.Asked j k Enter) h v =
      let one : i + 1 < wide node = omega (arith, h) in
      let f : at n + (i + 1) ≡ at n + i + 1 = omega arith in
      subst (λ q. IsOfPoint g policy q n) f (of_point n node e (i + 1) one)
  stays_by n node e i functions (spot.Asked j k (Limit limit)) h v =
      let one : i + 1 < wide node = omega (arith, h) in
      let f : at n + (i + 1) ≡ at n + i + 1 = omega arith in
      subst (λ q. IsOfPoint g policy q n) f (of_point n node e (i + 1) one)
  stays_by n node e i functions _ h v = cc

  stays_free : (q n : ℕ) (s : Spot) → is_visit s ≡ false → StaysIn g policy q n s
  unfolding is_visit
  stays_free q n (spot.Visit j k a) v = cc
  stays_free q n (spot.Asked j k a) v = cc
  stays_free q n _ v = tt

  pub spot_at_point : (q : ℕ) (s : Spot) → slice_get (spots g policy) q ≡ Some s → IsAtPoint g policy q s
  spot_at_point q s e =
      let r = found (spots_at policy parts at) wide (width_at policy parts at) g.nodes.items q s e in
      let n = r.0 in
      let node = r.1 in
      let i = r.2 in
      let k = number node.seam in
      let a = visits k 0 (primitives_at policy parts node.point) in
      let l = to at (first_of node.next) in
      let b = free parts node.point node.function k l (to at (second_of node.next)) in
      let there : i < wide node = subst (λ z. i < z) (width_at policy parts at node) (slice_get_within (spots_at policy parts at node) i s r.4) in
      let w = found_two a b i s r.4 in
      record {
        point = n;
        node = node;
        is_node = r.3;
        within = subst (λ p. IsOfPoint g policy p n) (sym r.5) (of_point n node r.3 i there);
        is_of = spot_of policy parts at node i s r.4;
        leads = ⊎_elim (λ y. visit_leads at node s (of_visits k 0 (primitives_at policy parts node.point) i s y))
            (λ y. free_leads at node s (free_as parts node.point node.function k l (to at (second_of node.next)) y.0 s y.1)) w;
        stays = subst (λ p. StaysIn g policy p n s) (sym r.5) (⊎_elim
            (λ y. stays_by n node r.3 i (suc (called_in node.point)) s
            (closed_at (at n + wide node) (suc (called_in node.point)) (at n) (a ++ free parts node.point node.function k 0 0) i s
            (point_closed (at n + wide node) (suc (called_in node.point)) policy parts node.point node.function k 0 0 (at n) (within_called node.point)
            (omega (arith, some_width node.point)) (omega (arith, some_width node.point)) (omega arith))
            (get_front a (free parts node.point node.function k 0 0) i s y))
            (of_visits k 0 (primitives_at policy parts node.point) i s y))
            (λ y. stays_free (at n + i) n s (free_quiet node.point node.function l (to at (second_of node.next)) s
            (free_as parts node.point node.function k l (to at (second_of node.next)) y.0 s y.1))) w);
      }

  -- a position is of one point
  rise : (ns : List Node) (p q : ℕ) → p ≤ q → base policy parts ns p ≤ base policy parts ns q
  rise ns zero q l = omega arith
  rise ns (suc p) zero l = absurd (omega (arith, l))
  rise [] (suc p) (suc q) l = omega arith
  rise (n ∷ ns) (suc p) (suc q) l = omega (arith, begin_next wide n ns p, begin_next wide n ns q, rise ns p q (omega (arith, l)))

  not_before : (q m n : ℕ) → IsOfPoint g policy q m → IsOfPoint g policy q n → m < n → ⊥
  not_before q m n h k l = let z = rise g.nodes.items (m + 1) n (omega (arith, l)) in omega (arith, z, h.before, k.begun)

  pub one_point : (q m n : ℕ) → IsOfPoint g policy q m → IsOfPoint g policy q n → m ≡ n
  one_point q m n h k = elim (nat_cases m n) [ inl e ↦ e | inr l ↦ absurd (⊎_elim (λ y. not_before q m n h k y) (λ y. not_before q n m k h y) l) ]
    where
      nat_cases : (m n : ℕ) → (m ≡ n) ⊎ ((m < n) ⊎ (n < m))
      nat_cases zero zero = inl refl
      nat_cases zero (suc n) = inr (inl (omega arith))
      nat_cases (suc m) zero = inr (inr (omega arith))
      nat_cases (suc m) (suc n) = elim (nat_cases m n) [ inl e ↦ inl (ap suc e) | inr l ↦ inr (⊎_elim (λ y. inl (omega (arith, y))) (λ y. inr (omega (arith, y))) l) ]

-- ---- as many items as points

items_from : (f : ℕ) (rs : List Routine) → length (points_from f rs) ≡ count_from rs
items_from f [] = refl
items_from f (r ∷ rs) = omega (
  arith,
  length-append (points_of f r) (points_from (f + 1) rs),
  length-append (points_in_all r.body) (End f ∷ []),
  points_length_all r.body,
  items_from (f + 1) rs,
)

items_length : (plan : Plan) → length (points plan) ≡ length (nodes plan)
items_length plan = items_from 0 plan.routines ∙ sym (length_nodes plan)

-- ---- a move of a board leaves the stack, or is a step of it

abbrev Stays : Problem → Board → Move → Board → Type 0
Stays p b by next = ((way_of by ≡ None) × (next.stack ≡ b.stack)) ⊎ ((way : Way) × (way_of by ≡ Some way) × (pass p.plan b.stack way ≡ Some next.stack))

module _ (p : Problem) where
  step_stack : (mode : Option Caps) (b next : Board) (by : Move) (o : Option Way) → way_of by ≡ o → stepped p mode b o ≡ Some next
      → (way : Way) × (way_of by ≡ Some way) × (pass p.plan b.stack way ≡ Some next.stack)
  step_stack mode b next by None eo e = absurd (none-some next e)
  step_stack mode b next by (Some way) eo e = go (pass p.plan b.stack way) refl e
    where
      go : (o : Option (List Frame)) → pass p.plan b.stack way ≡ o → option_map (landed p mode b way) o ≡ Some next
          → (way : Way) × (way_of by ≡ Some way) × (pass p.plan b.stack way ≡ Some next.stack)
      go None ep e = absurd (none-some next e)
      go (Some stack) ep e = (way, eo, ep ∙ ap (λ (z : Board). Some z.stack) (same_Some (landed p mode b way stack) next e))

  stack_after : (b : Board) (phase : Phase) (by : Move) (next : Board) → moved p b phase by ≡ Some next → Stays p b by next
  stack_after b (Visit stage a later) Skip next e = inl (refl, sym (ap (λ (z : Board). z.stack) (same_Some _ next e)))
  stack_after b (Visit stage a later) Try next e = inl (refl, sym (ap (λ (z : Board). z.stack) (same_Some _ next e)))
  stack_after b (Visit stage a later) _ next e = absurd (none-some next e)
  stack_after b (Asked stage a later) Grant next e =
      inl (refl, sym (ap (λ (z : Board). z.stack) (cond_some (may_grant b.caps a) (granted b stage a later) next e).1) ∙ granted_stack b stage a later)
  stack_after b (Asked stage a later) Refuse next e =
      inl (refl, sym (ap (λ (z : Board). z.stack) (cond_some (may_refuse p.policy b.caps a) (refused p b stage a later) next e).1))
  stack_after b (Asked stage a later) _ next e = absurd (none-some next e)
  stack_after b (Refused stage a later) Skip next e = inl (refl, sym (ap (λ (z : Board). z.stack) (same_Some _ next e)))
  stack_after b (Refused stage a later) Stop next e = inl (refl, sym (ap (λ (z : Board). z.stack) (same_Some _ next e)))
  stack_after b (Refused stage a later) _ next e = absurd (none-some next e)
  stack_after b Free by next e = inr (step_stack None b next by (way_of by) refl e)
  stack_after b FreeSplit by next e = inr (step_stack (Some b.caps) b next by (way_of by) refl e)
  stack_after b Over by next e = absurd (none-some next e)

-- ---- the stack and the pair

module _ (g : Graph) (policy : PlainPolicy) (plan : Plan) (has : (f : ℕ) → IsPart g.nodes.items (points plan) f (slice_get plan.routines f) (slice_get g.parts.items f))
    (game : Game) (on : IsGameOn g policy game) where
  abbrev Places : List Ret → List ℕ → Type 0
  Places rets returns = map (λ (r : Ret). r.back) rets ≡ map (base_of g policy) returns

  -- the stack stands at a point, its pair at a position of the point, and each call that waits where the point begins to which it returns
  record Along (stack : List Frame) (c : Config) : Type 0 where
    pub point : ℕ
    pub returns : List ℕ
    pub stands : StackAt g.nodes.items (points plan) stack (Some (stand returns point))
    pub within : IsOfPoint g policy c.pos point
    pub places : Places c.rets returns

  fronted : (frame : Frame) (frames : List Frame) (s : Stand) → StackAt g.nodes.items (points plan) (frame ∷ frames) (Some s)
      → Front g.nodes.items (points plan) plan g.parts.items has frame frames s.returns s.point
  fronted frame frames s h = front_at g.nodes.items (points plan) plan g.parts.items has frames s.returns h.4 h.0 h.1 frame h.2.0 h.2.1 s.point h.2.2 h.3

  -- the point at which a stack stands begins at one of its positions
  begins : (stack : List Frame) (s : Stand) → StackAt g.nodes.items (points plan) stack (Some s) → IsOfPoint g policy (base_of g policy s.point) s.point
  begins [] s h = absurd h
  begins (frame ∷ frames) s h =
      let k = fronted frame frames s h in
      let z : base_of g policy s.point + 0 ≡ base_of g policy s.point = omega arith in
      subst (λ q. IsOfPoint g policy q s.point) z (of_point g policy s.point k.what k.here.0 0 (some_width g policy k.what.point))

  abbrev Reaches : Option Stand → Config → Type 0
  Reaches here d = (k : ℕ) × (returns : List ℕ) × (here ≡ Some (stand returns k)) × (d.pos ≡ base_of g policy k) × Places d.rets returns

  to_first : (o : Option ℕ) (returns : List ℕ) (here : Option Stand) (m q : ℕ) (rets : List Ret) → option_map (λ p. Some (stand returns p)) o ≡ Some here → m ≡ to (base_of g policy) o
      → Places rets returns → Reaches here (at_pair m q rets)
  to_first None returns here m q rets e z h = absurd (none-some here e)
  to_first (Some k) returns here m q rets e z h = (k, returns, sym (same_Some _ here e), z, h)

  to_called : (f : ℕ) (part : Option Part) (o : Option ℕ) (returns : List ℕ) (here : Option Stand) (m q : ℕ) (kept : Option ℕ) (rets : List Ret) → slice_get g.parts.items f ≡ part
      → option_map (λ s. Some s) (option_and_then (called part returns) o) ≡ Some here → m ≡ to (base_of g policy) o → Places rets returns
      → Reaches here (at_pair (game.entry f) q (record { back = m; kept = kept } ∷ rets))
  to_called f None None returns here m q kept rets ep e z h = absurd (none-some here e)
  to_called f None (Some k) returns here m q kept rets ep e z h = absurd (none-some here e)
  to_called f (Some part) None returns here m q kept rets ep e z h = absurd (none-some here e)
  to_called f (Some part) (Some k) returns here m q kept rets ep e z h = (
    part.entry.0,
    k ∷ returns,
    sym (same_Some _ here e),
    on.entry f ∙ ap (λ (o : Option Part). to (base_of g policy) (option_map (λ (y : Part). y.entry.0) o)) ep,
    ap (λ n. n ∷ map (λ (r : Ret). r.back) rets) z ∙ ap (λ l. base_of g policy k ∷ l) h,
  )

  to_back : (returns : List ℕ) (here : Option Stand) (q : ℕ) (r : Ret) (rets : List Ret) → Some (returned returns) ≡ Some here → Places (r ∷ rets) returns → Reaches here (at_pair r.back q rets)
  to_back [] here q r rets e h = cc
  to_back (back ∷ returns) here q r rets e h =
      let one : r.back ≡ base_of g policy back = cc in
      let more : map (λ (r : Ret). r.back) rets ≡ map (base_of g policy) returns = cc in
      (back, returns, sym (same_Some _ here e), one, more)

  -- a step of the stack, and what the pair's spot leads to
  lead : (n : Node) (w : Point) (way other : Way) (returns : List ℕ) (here : Option Stand) → n.point ≡ w → other ≡ way → leads g.parts.items returns n.point n.next way ≡ Some here
      → leads g.parts.items returns w n.next other ≡ Some here
  lead n w way other returns here e f h = sym (ap₂ (λ x y. leads g.parts.items returns x n.next y) e (sym f)) ∙ h

  way_leads : (s : Spot) (n : Node) (by : Move) (way : Way) (p q : ℕ) (rets : List Ret) (returns : List ℕ) (here : Option Stand) (d : Config) → way_of by ≡ Some way
      → LeadsAs (base_of g policy) n s → leads g.parts.items returns n.point n.next way ≡ Some here → leads_in game p q rets (Some s) by ≡ Some d → Places rets returns → Reaches here d
  way_leads (spot.Step k) n On way p q rets returns here d e h l m z =
      let w = same_Some OnWay way e in
      subst (Reaches here) (same_Some (at_pair k q rets) d m) (⊎_elim
      (λ y. to_first (first_of n.next) returns here k q rets (lead n point.Entry way OnWay returns here y w l) h.1 z)
      (λ y. to_first (first_of n.next) returns here k q rets (lead n point.Step way OnWay returns here y w l) h.1 z) h.0)
  way_leads (spot.Step k) n _ way p q rets returns here d e h l m z = absurd (none-some d m)
  way_leads (spot.Branch a b) n Left way p q rets returns here d e h l m z =
      subst (Reaches here) (same_Some (at_pair a q rets) d m)
      (to_first (first_of n.next) returns here a q rets (lead n point.Branch way LeftWay returns here h.0 (same_Some LeftWay way e) l) h.1 z)
  way_leads (spot.Branch a b) n Right way p q rets returns here d e h l m z =
      subst (Reaches here) (same_Some (at_pair b q rets) d m)
      (to_first (second_of n.next) returns here b q rets (lead n point.Branch way RightWay returns here h.0 (same_Some RightWay way e) l) h.2 z)
  way_leads (spot.Branch a b) n _ way p q rets returns here d e h l m z = absurd (none-some d m)
  way_leads (spot.Label j x k) n On way p q rets returns here d e h l m z =
      subst (Reaches here) (same_Some _ d m)
      (to_first (first_of n.next) returns here k (game.states.lettered q x) rets (lead n (point.Label x) way OnWay returns here h.0 (same_Some OnWay way e) l) h.1 z)
  way_leads (spot.Label j x k) n _ way p q rets returns here d e h l m z = absurd (none-some d m)
  way_leads (spot.Open j x k) n Opened way p q rets returns here d e h l m z =
      subst (Reaches here) (same_Some _ d m)
      (to_first (first_of n.next) returns here k (game.states.opened q x) rets (lead n (point.Open x) way OpenedWay returns here h.0 (same_Some OpenedWay way e) l) h.1 z)
  way_leads (spot.Open j x k) n Failed way p q rets returns here d e h l m z =
      subst (Reaches here) (same_Some _ d m)
      (to_first (first_of n.next) returns here k (game.states.closed q x) rets (lead n (point.Open x) way FailedWay returns here h.0 (same_Some FailedWay way e) l) h.1 z)
  way_leads (spot.Open j x k) n _ way p q rets returns here d e h l m z = absurd (none-some d m)
  way_leads (spot.Close j x k) n On way p q rets returns here d e h l m z =
      subst (Reaches here) (same_Some _ d m)
      (to_first (first_of n.next) returns here k (game.states.closed q x) rets (lead n (point.Close x) way OnWay returns here h.0 (same_Some OnWay way e) l) h.1 z)
  way_leads (spot.Close j x k) n _ way p q rets returns here d e h l m z = absurd (none-some d m)
  way_leads (spot.Call j f k) n On way p q rets returns here d e h l m z =
      subst (Reaches here) (same_Some _ d m)
      (to_called f (slice_get g.parts.items f) (first_of n.next) returns here k q None rets refl (lead n (point.Call f) way OnWay returns here h.0 (same_Some OnWay way e) l) h.1 z)
  way_leads (spot.Call j f k) n _ way p q rets returns here d e h l m z = absurd (none-some d m)
  way_leads (spot.SplitCall j f k) n On way p q rets returns here d e h l m z =
      subst (Reaches here) (same_Some _ d m)
      (to_called f (slice_get g.parts.items f) (first_of n.next) returns here k q (Some q) rets refl (lead n (point.Call f) way OnWay returns here h.0 (same_Some OnWay way e) l) h.1 z)
  way_leads (spot.SplitCall j f k) n _ way p q rets returns here d e h l m z = absurd (none-some d m)
  way_leads (spot.Exit f) n On way p q (r ∷ rets) returns here d e h l m z =
      subst (Reaches here) (same_Some _ d m) (to_back returns here (returned_to game.states r.kept q) r rets (lead n point.Exit way OnWay returns here h.0 (same_Some OnWay way e) l) z)
  way_leads (spot.Exit f) n On way p q [] returns here d e h l m z = absurd (none-some d m)
  way_leads (spot.Exit f) n by way p q rets returns here d e h l m z = absurd (none-some d (sym (exit_only game p q f rets by (λ e. cc)) ∙ m))
  way_leads (spot.Visit j i a) n Skip way p q rets returns here d e h l m z = absurd (none-some way e)
  way_leads (spot.Visit j i a) n Try way p q rets returns here d e h l m z = absurd (none-some way e)
  way_leads (spot.Visit j i a) n _ way p q rets returns here d e h l m z = absurd (none-some d m)
  way_leads (spot.Asked j i a) n Grant way p q rets returns here d e h l m z = absurd (none-some way e)
  way_leads (spot.Asked j i a) n Refuse way p q rets returns here d e h l m z = absurd (none-some way e)
  way_leads (spot.Asked j i a) n _ way p q rets returns here d e h l m z = absurd (none-some d m)

  -- a move that leaves the stack leads to a position of the same point
  abbrev Same : ℕ → List Ret → Config → Type 0
  Same n rets d = IsOfPoint g policy d.pos n × (d.rets ≡ rets)

  past : (p q n j i : ℕ) (a : Primitive) (rets : List Ret) → StaysIn g policy p n (spot.Asked j i a) → Same n rets (past_asked game p q a rets)
  past p q n j i Split rets h = (h.1, refl)
  past p q n j i Enter rets h = (h, refl)
  past p q n j i (Limit limit) rets h = (h, refl)

  behind : (p n j i : ℕ) (a : Primitive) → StaysIn g policy p n (spot.Asked j i a) → IsOfPoint g policy (p + 1) n
  behind p n j i Split h = h.0
  behind p n j i Enter h = h
  behind p n j i (Limit limit) h = h

  still_leads : (s : Spot) (by : Move) (p q n : ℕ) (rets : List Ret) (d : Config) → way_of by ≡ None → leads_in game p q rets (Some s) by ≡ Some d → StaysIn g policy p n s → Same n rets d
  still_leads (spot.Visit j i a) Skip p q n rets d e m h = subst (Same n rets) (same_Some (at_pair (p + 2) q rets) d m) (h.1, refl)
  still_leads (spot.Visit j i a) Try p q n rets d e m h = subst (Same n rets) (same_Some (at_pair (p + 1) q rets) d m) (h.0, refl)
  still_leads (spot.Visit j i a) _ p q n rets d e m h = absurd (none-some d m)
  still_leads (spot.Asked j i a) Grant p q n rets d e m h =
      subst (Same n rets) (cond_some (game.states.may_grant q a) (past_asked game p q a rets) d m).1 (past p q n j i a rets h)
  still_leads (spot.Asked j i a) Refuse p q n rets d e m h =
      subst (Same n rets) (cond_some (refuses_in game q a) (at_pair (p + 1) q rets) d m).1 (behind p n j i a h, refl)
  still_leads (spot.Asked j i a) _ p q n rets d e m h = absurd (none-some d m)
  still_leads (spot.Step k) On p q n rets d e m h = cc
  still_leads (spot.Step k) _ p q n rets d e m h = absurd (none-some d m)
  still_leads (spot.Branch a b) Left p q n rets d e m h = cc
  still_leads (spot.Branch a b) Right p q n rets d e m h = cc
  still_leads (spot.Branch a b) _ p q n rets d e m h = absurd (none-some d m)
  still_leads (spot.Label j x k) On p q n rets d e m h = cc
  still_leads (spot.Label j x k) _ p q n rets d e m h = absurd (none-some d m)
  still_leads (spot.Open j x k) Opened p q n rets d e m h = cc
  still_leads (spot.Open j x k) Failed p q n rets d e m h = cc
  still_leads (spot.Open j x k) _ p q n rets d e m h = absurd (none-some d m)
  still_leads (spot.Close j x k) On p q n rets d e m h = cc
  still_leads (spot.Close j x k) _ p q n rets d e m h = absurd (none-some d m)
  still_leads (spot.Call j f k) On p q n rets d e m h = cc
  still_leads (spot.Call j f k) _ p q n rets d e m h = absurd (none-some d m)
  still_leads (spot.SplitCall j f k) On p q n rets d e m h = cc
  still_leads (spot.SplitCall j f k) _ p q n rets d e m h = absurd (none-some d m)
  still_leads (spot.Exit f) On p q n rets d e m h = cc
  still_leads (spot.Exit f) by p q n rets d e m h = absurd (none-some d (sym (exit_only game p q f rets by (λ e. cc)) ∙ m))

  -- what the stack's step is in the graph
  of_tied : (next : List Frame) (o : Option (Option Stand)) → Tied g.nodes.items (points plan) (Some next) o → (here : Option Stand) × (o ≡ Some here) × StackAt g.nodes.items (points plan) next here
  of_tied next None t = absurd t
  of_tied next (Some here) t = (here, refl, t)

  in_graph : (stack next : List Frame) (s : Stand) (way : Way) → StackAt g.nodes.items (points plan) stack (Some s) → pass plan stack way ≡ Some next
      → (here : Option Stand) × (goes g.nodes.items g.parts.items s way ≡ Some here) × StackAt g.nodes.items (points plan) next here
  in_graph [] next s way h e = absurd h
  in_graph (frame ∷ frames) next s way h e =
      of_tied next (goes g.nodes.items g.parts.items s way)
      (subst (λ o. Tied g.nodes.items (points plan) o (goes g.nodes.items g.parts.items s way)) e (tied g.nodes.items (points plan) plan g.parts.items has frame frames s way h))

  reached : (stack : List Frame) (here : Option Stand) (d : Config) → StackAt g.nodes.items (points plan) stack here → Reaches here d → Along stack d
  reached stack here d h r =
      let k = subst (StackAt g.nodes.items (points plan) stack) r.2 h in
      record {
        point = r.0;
        returns = r.1;
        stands = k;
        within = subst (λ q. IsOfPoint g policy q r.0) (sym r.3) (begins stack (stand r.1 r.0) k);
        places = r.4;
      }

  abbrev problem : Problem
  problem = record { plan = plan; policy = policy }

  -- what stands at the pair's position, by the point at which the stack stands
  record Seen (c : Config) (n : ℕ) (s : Spot) : Type 0 where
    pub node : Node
    pub is_node : slice_get g.nodes.items n ≡ Some node
    pub leads : LeadsAs (base_of g policy) node s
    pub stays : StaysIn g policy c.pos n s

  seen : (c : Config) (n : ℕ) (s : Spot) → IsOfPoint g policy c.pos n → slice_get game.spots c.pos ≡ Some s → Seen c n s
  seen c n s w e =
      let a = spot_at_point g policy c.pos s (sym (ap (λ l. slice_get l c.pos) on.spots) ∙ e) in
      let z = one_point g policy c.pos a.point n a.within w in
      record {
        node = a.node;
        is_node = subst (λ k. slice_get g.nodes.items k ≡ Some a.node) z a.is_node;
        leads = a.leads;
        stays = subst (λ k. StaysIn g policy c.pos k s) z a.stays;
      }

  moves_on : (b : Board) (c : Config) (by : Move) (next : Board) (d : Config) (o : Option Spot) → slice_get game.spots c.pos ≡ o → Along b.stack c → Stays problem b by next
      → leads_in game c.pos c.state c.rets o by ≡ Some d → Along next.stack d
  moves_on b c by next d None eo k (inl w) m = absurd (none-some d m)
  moves_on b c by next d None eo k (inr w) m = absurd (none-some d m)
  moves_on b c by next d (Some s) eo k (inl w) m =
      let x = seen c k.point s k.within eo in
      let y = still_leads s by c.pos c.state k.point c.rets d w.0 m x.stays in
      record {
        point = k.point;
        returns = k.returns;
        stands = subst (λ l. StackAt g.nodes.items (points plan) l (Some (stand k.returns k.point))) (sym w.1) k.stands;
        within = y.0;
        places = ap (map (λ (r : Ret). r.back)) y.1 ∙ k.places;
      }
  moves_on b c by next d (Some s) eo k (inr w) m =
      let x = seen c k.point s k.within eo in
      let t = in_graph b.stack next.stack (stand k.returns k.point) w.0 k.stands w.2 in
      let l : leads g.parts.items k.returns x.node.point x.node.next w.0 ≡ Some t.0 =
      sym (ap (option_and_then (λ (n : Node). leads g.parts.items k.returns n.point n.next w.0)) x.is_node) ∙ t.1 in
      reached next.stack t.0 d t.2 (way_leads s x.node by w.0 c.pos c.state c.rets k.returns t.0 d w.1 x.leads l m k.places)

  stop_still : (caps : Caps) (phase : Phase) (by : Move) → stop_answers policy caps phase by ≡ true → way_of by ≡ None
  stop_still caps (Asked i a later) Refuse e = refl
  stop_still caps _ _ e = cc

  same_stack : (b : Board) (c : Config) (by : Move) (next : Board) → way_of by ≡ None → Stays problem b by next → Along b.stack c → Along next.stack c
  same_stack b c by next e (inl w) k = record {
    point = k.point;
    returns = k.returns;
    stands = subst (λ l. StackAt g.nodes.items (points plan) l (Some (stand k.returns k.point))) (sym w.1) k.stands;
    within = k.within;
    places = k.places;
  }
  same_stack b c by next e (inr w) k = absurd (none-some w.0 (sym e ∙ w.1))

  goes_on : (c : Config) (o : Option Spot) (pair : ℕ × ℕ) (stack : List Frame) → slice_get game.spots c.pos ≡ o → resumed_in game c.pos c.state o ≡ Some pair → Along stack c
      → Along stack (at_pair pair.0 pair.1 c.rets)
  goes_on c (Some (spot.Asked j i a)) pair stack eo e k =
      let x = seen c k.point (spot.Asked j i a) k.within eo in
      let z = (cond_some (can_stop_in game c.state a) (c.pos + 1, c.state) pair e).1 in
      record {
        point = k.point;
        returns = k.returns;
        stands = k.stands;
        within = subst (λ (y : ℕ × ℕ). IsOfPoint g policy y.0 k.point) z (behind c.pos k.point j i a x.stays);
        places = k.places;
      }
  goes_on c _ pair stack eo e k = absurd (none-some pair e)

  module _ (main : g.main ≡ plan.main) (r : Routine) (there : slice_get plan.routines plan.main ≡ Some r) where
    begun : (part : Option Part) → slice_get g.parts.items plan.main ≡ part → StackAt g.nodes.items (points plan) (start_stack plan) (option_map (λ (q : Part). stand [] q.entry.0) part)
        → IsPart g.nodes.items (points plan) plan.main (Some r) part → Along (start_stack plan) (at_pair (game.entry game.main) game.states.start [])
    begun None e h w = absurd w
    begun (Some part) e h w = record {
      point = part.entry.0;
      returns = [];
      stands = h;
      within = subst (λ q. IsOfPoint g policy q part.entry.0)
          (sym (on.entry game.main ∙ ap (λ (f : ℕ). to (base_of g policy) (option_map (λ (y : Part). y.entry.0) (slice_get g.parts.items f))) (on.main ∙ main)
          ∙ ap (λ (o : Option Part). to (base_of g policy) (option_map (λ (y : Part). y.entry.0) o)) e))
          (begins (start_stack plan) (stand [] part.entry.0) h);
      places = refl;
    }

    along : (b : Board) (c : Config) → Together problem game b c → Along b.stack c
    along _ _ at_start =
        let s = starts g.nodes.items (points plan) plan g.parts.items has in
        let w = subst (λ o. IsPart g.nodes.items (points plan) plan.main o (slice_get g.parts.items plan.main)) there (has plan.main) in
        begun (slice_get g.parts.items plan.main) refl s w
    along _ _ (by_move b c by next d t m e) = moves_on b c by next d (slice_get game.spots c.pos) refl (along b c t) (stack_after problem b b.phase by next m.1) e
    along _ _ (by_refusal b c by next t s m) =
        same_stack b c by next (stop_still b.caps b.phase by s) (stack_after problem b b.phase by next m.1) (along b c t)
    along _ _ (by_going_on b c pair next t w e m) =
        goes_on c (slice_get game.spots c.pos) pair next.stack refl e (same_stack b c Skip next refl (stack_after problem b b.phase Skip next m.1) (along b c t))

    fronts : (stack : List Frame) (c : Config) → Along stack c → (item : Item) × HasItem plan g policy c.pos item × (front stack ≡ item ∷ [])
    fronts [] c k = absurd k.stands
    fronts (frame ∷ frames) c k =
        let y = fronted frame frames (stand k.returns k.point) k.stands in
        (y.item, record { point = k.point; within = k.within; is = y.here.1 }, y.is_front)

    pub front_here : (b : Board) (c : Config) → Together problem game b c → (item : Item) × HasItem plan g policy c.pos item × (front b.stack ≡ item ∷ [])
    front_here b c t = fronts b.stack c (along b c t)

  pub item_here : length (points plan) ≡ length g.nodes.items → (q : ℕ) → q < length game.spots → (item : Item) × HasItem plan g policy q item
  item_here size q l =
      let s = get_below game.spots q l in
      let a = spot_at_point g policy q s.0 (sym (ap (λ l. slice_get l q) on.spots) ∙ s.1) in
      let i = get_below (points plan) a.point (omega (arith, size, a.within.there)) in
      (i.0, record { point = a.point; within = a.within; is = i.1 })

pub one_item : (plan : Plan) (g : Graph) (policy : PlainPolicy) (q : ℕ) (item other : Item) → HasItem plan g policy q item → HasItem plan g policy q other → item ≡ other
one_item plan g policy q item other h k =
    let z = one_point g policy q h.point k.point h.within k.within in
    same_Some item other (sym h.is ∙ ap (slice_get (points plan)) z ∙ k.is)

pub items_stand : (policy : PlainPolicy) (source : List ℕ) (file : File) (g : Graph) (game : Game)
    → IsGraph (names_of policy) source file g → IsRunnable (plan_of (names_of policy) source file) → IsGameOn g policy game → ItemsStand policy source file g game
items_stand policy source file g game i runs on =
    let names = names_of policy in
    let plan = plan_of names source file in
    let has = of_graph names source file g (λ ns ps m. (f : ℕ) → IsPart ns (points plan) f (slice_get plan.routines f) (slice_get ps f)) i (situated_program names source file) in
    record {
      some = λ q l. item_here g policy plan has game on (items_length plan ∙ sym (ap length i.nodes)) q l;
      one = one_item plan g policy;
      front = front_here g policy plan has game on i.main runs.main.0 runs.main.1;
    }
