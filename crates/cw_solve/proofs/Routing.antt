-- A game that was made for the graph of a program keeps to its functions.
use Rattle.std.proofs.Common.{◌≡◌, ℕ, ◌+◌, ◌<◌, ◌≤◌, List, Bool, true, false, Option, Some, None, length, take, refl, sym, ap, ◌∙◌, subst, arith, inl, inr}
use Rattle.std.specs.Prelude.{slice_get, option_map, sum_by, Contains, if◌then◌else◌, nat_eq}
use Rattle.std.proofs.Math.Nat.{mul-le-mul_left}
use Rattle.std.proofs.lemmas.Bool.{cases_lt}
use Rattle.std.proofs.lemmas.List.{take-take}
use Rattle.std.proofs.lemmas.List.Sums.{sum_by-take-le}
use Rattle.std.proofs.lemmas.Option.{slice_get_within}
use Rattle.cw_rights.specs.Policies.{PlainPolicy, policy_of}
use Rattle.cw_syntax.specs.Names.{Names}
use Rattle.cw_syntax.specs.Trees.{File}
use Rattle.cw_syntax.specs.Plans.{plan_of}
use Rattle.cw_syntax.specs.Runnable.{IsRunnable}
use Rattle.cw_resolve.specs.Scenes.{names_of}
use Rattle.cw_points.specs.declared.graph.Point.{Point}
use Rattle.cw_points.specs.declared.graph.Point.TheVariants as point
use Rattle.cw_points.specs.declared.graph.Node.{Node}
use Rattle.cw_points.specs.declared.graph.Part.{Part}
use Rattle.cw_points.specs.Graphs.{node, nodes, splits_of}
use Rattle.cw_points.specs.Walks.{first_of, second_of, parts_of}
use Rattle.cw_positions.specs.Positions.{width, base, number, to, spots_at, spots_in, base_of}
use Rattle.cw_positions.specs.Closed.{IsClosed}
use Rattle.cw_positions.proofs.Begins.{begin_more}
use Rattle.cw_lemmas.proofs.Lists.{get_below}
use Rattle.cw_positions.proofs.Lengths.{width_at}
use Rattle.cw_positions.proofs.Standing.{found}
use Rattle.cw_positions.proofs.Programs.{of_graph, routine_of, positions_are_closed, main_is_there}
use Rattle.cw_states.specs.Below.{StayBelow}
use Rattle.cw_states.specs.States.{lists_of}
use Rattle.cw_states.proofs.Below.{stay_below}
use Rattle.cw_game.specs.declared.spots.Spot.{Spot}
use Rattle.cw_game.specs.declared.spots.Spot.TheVariants.{Call, SplitCall}
use Rattle.cw_game.specs.Games.{Game}
use Rattle.cw_game.specs.Pairs.{Called, call_in, call_spot}
use Rattle.cw_game.proofs.Holding.{AreClosed}
use Rattle.cw_product.specs.Product.{Held, game_of}
use Rattle.cw_product.specs.Uses.{uses_of}
use Rattle.cw_product.specs.Routed.{IsState, targets, IsThere, AreRouted, IsOf}
use Rattle.cw_product.specs.Made.{IsMade}
use Rattle.cw_solve.proofs.Falls.{call_is}
use Rattle.cw_solve.proofs.Staying.{IsBetween, LeadsOn, part_stays, part_rises}
use Rattle.cw_solve.proofs.Spotting as spotting

-- the parts of a list begin one after the other
rises : {A : Type 0} (w : A → ℕ) (ns : List A) (a b : ℕ) → a ≤ b → sum_by w (take a ns) ≤ sum_by w (take b ns)
rises w ns a b le =
    let z = ap (sum_by w) (take-take a b ns le) in
    let m = sum_by-take-le w (take b ns) a in
    omega (arith, z, m)

module _ (policy : PlainPolicy) (ps : List Part) (ns : List Node) where
  abbrev at : ℕ → ℕ
  at = base policy ps ns

  abbrev wide : Node → ℕ
  wide n = width policy ps n.point

  up : (a b : ℕ) → a ≤ b → at a ≤ at b
  up a b le = rises wide ns a b le

  between : (lo hi : ℕ) (o : Option ℕ) → IsBetween lo hi o → (at lo ≤ to at o) × (to at o ≤ at hi)
  between lo hi None h = absurd h
  between lo hi (Some p) h = (up lo p h.0, up p hi h.1)

  leads_on : (lo hi : ℕ) (w : Point) (a b : Option ℕ) → LeadsOn lo hi w a b → spotting.LeadsOn (at lo) (at hi) policy ps w (to at a) (to at b)
  leads_on lo hi point.Exit a b h = tt
  leads_on lo hi point.Branch a b h = (between lo hi a h.0, between lo hi b h.1)
  leads_on lo hi point.Entry a b h = between lo hi a h
  leads_on lo hi point.Step a b h = between lo hi a h
  leads_on lo hi (point.Label l) a b h = between lo hi a h
  leads_on lo hi (point.Open d) a b h = between lo hi a h
  leads_on lo hi (point.Close d) a b h = between lo hi a h
  leads_on lo hi (point.Call f) a b h = between lo hi a h

  -- from positions of a part, whose points lead to its points, to its positions
  position_stays : (lo hi : ℕ) (last : Node) → slice_get ns hi ≡ Some last → last.point ≡ point.Exit
      → ((p : ℕ) (n : Node) → slice_get ns p ≡ Some n → lo ≤ p → p ≤ hi → LeadsOn lo hi n.point (first_of n.next) (second_of n.next))
      → (pos r : ℕ) (s : Spot) → slice_get (spots_in policy ps ns) pos ≡ Some s → at lo ≤ pos → pos ≤ at hi → Contains (targets pos (Some s)) r → (at lo ≤ r) × (r ≤ at hi)
  position_stays lo hi last is exit leads pos r s e low high c =
      let f = found (spots_at policy ps at) wide (width_at policy ps at) ns pos s e in
      let p = f.0 in
      let n = f.1 in
      let i = f.2 in
      let long = slice_get_within (spots_at policy ps at n) i s f.4 in
      let wide_is = width_at policy ps at n in
      let more : at (p + 1) ≡ at p + wide n = begin_more wide ns p n f.3 in
      let one : wide last ≡ 1 = ap (λ (w : Point). width policy ps w) exit ∙ last_width in
      let past : at (hi + 1) ≡ at hi + wide last = begin_more wide ns hi last is in
      let above : lo ≤ p = first_in p (omega (arith, f.5, long, wide_is, more, low)) in
      let below : p ≤ hi = last_in p (omega (arith, f.5, past, one, high)) in
      let next : at (p + 1) ≤ at (hi + 1) = up (p + 1) (hi + 1) (omega (arith, below)) in
      let all = spotting.point_stays (at lo) (at hi) policy ps n.point n.function (number n.seam) (to at (first_of n.next)) (to at (second_of n.next)) (at p)
      (leads_on lo hi n.point (first_of n.next) (second_of n.next) (leads p n f.3 above below)) (omega (arith, next, past, one, more)) in
      let st = spotting.stay_at (at lo) (at hi) (at p) (spots_at policy ps at n) i s all f.4 in
      spotting.stays_in (at lo) (at hi) pos r s low (subst (λ (q : ℕ). spotting.Stays (at lo) (at hi) q s) (sym f.5) st) c
    where
      last_width : width policy ps point.Exit ≡ 1
      last_width = refl

      first_in : (p : ℕ) → at lo < at (p + 1) → lo ≤ p
      first_in p h = elim (cases_lt p lo) [
        | inl lt ↦ let le = up (p + 1) lo (omega (arith, lt)) in absurd (omega (arith, h, le))
        | inr ge ↦ ge
      ]

      last_in : (p : ℕ) → at p < at (hi + 1) → p ≤ hi
      last_in p h = elim (cases_lt hi p) [
        | inl lt ↦ let le = up (hi + 1) p (omega (arith, lt)) in absurd (omega (arith, h, le))
        | inr ge ↦ ge
      ]

-- the states of a made game stay below their number
states_closed : (g : Game) → StayBelow g.states → AreClosed g (IsState g)
states_closed g b = record {
  granted = λ p j i q a es y s. b.granted q a s;
  lettered = λ p j l n q es y s. b.lettered q l s;
  opened = λ p j d n q es s. b.opened q d s;
  failed = λ p j d n q es s. b.closed q d s;
  closed = λ p j d n q es s. b.closed q d s;
  returned = λ p j f n x q es s t. b.with_rights x q s t;
}

-- A part begins before it ends, ends at an exit, and its points lead to its points.
record StaysIn (ns : List Node) (q : Part) : Type 0 where
  rises : q.entry.0 ≤ q.exit.0
  last : Node
  is_last : slice_get ns q.exit.0 ≡ Some last
  exit : last.point ≡ point.Exit
  leads : (p : ℕ) (n : Node) → slice_get ns p ≡ Some n → q.entry.0 ≤ p → p ≤ q.exit.0 → LeadsOn q.entry.0 q.exit.0 n.point (first_of n.next) (second_of n.next)

abbrev PartsStay : List Node → List Part → ℕ → Type 0
PartsStay ns ps m = (f : ℕ) (q : Part) → slice_get ps f ≡ Some q → StaysIn ns q

plan_stays : (names : Names) (source : List ℕ) (file : File) → IsRunnable (plan_of names source file)
    → PartsStay (nodes (plan_of names source file)) (parts_of names source file) (plan_of names source file).main
plan_stays names source file runs f q e =
    let rs = (plan_of names source file).routines in
    let splits = splits_of names source file in
    let r = routine_of names source file f q e in
    record {
      rises = part_rises rs splits f q e;
      last = node point.Exit f None None;
      is_last = r.2.ends.0;
      exit = refl;
      leads = λ p n d lo hi. part_stays rs splits 0 0 f p q n runs.lands e d (omega (arith, lo)) (omega (arith, hi));
    }

few_by : (b : Bool) (n : ℕ) → n ≤ (if b then 1024 else 512) → n ≤ 1024
few_by true n h = h
few_by false n h = omega (arith, h)

module _ (h : Held) (made : IsMade h) where
  abbrev policy : PlainPolicy
  policy = policy_of h.states.policy

  abbrev g : Game
  g = game_of h

  abbrev ps : List Part
  ps = h.graph.parts.items

  closed : IsClosed h.graph (policy_of h.states.policy)
  closed = positions_are_closed (names_of policy) made.graph.source made.graph.file h.graph policy made.graph.drawn

  parts_stay : PartsStay h.graph.nodes.items h.graph.parts.items h.graph.main
  parts_stay = of_graph (names_of policy) made.graph.source made.graph.file h.graph PartsStay made.graph.drawn (plan_stays (names_of policy) made.graph.source made.graph.file made.graph.runnable)

  begins_at : (f : ℕ) (q : Part) → slice_get ps f ≡ Some q → g.entry f ≡ base_of h.graph policy q.entry.0
  begins_at f q e = ap (λ (o : Option Part). to (base_of h.graph policy) (option_map (λ (part : Part). part.entry.0) o)) e

  ends_at : (f : ℕ) (q : Part) → slice_get ps f ≡ Some q → g.exit f ≡ base_of h.graph policy q.exit.0
  ends_at f q e = ap (λ (o : Option Part). to (base_of h.graph policy) (option_map (λ (part : Part). part.exit.0) o)) e

  is_there : (f : ℕ) → f < length h.graph.parts.items → IsThere (game_of h) (length h.graph.parts.items) f
  is_there f below =
      let q = get_below ps f below in
      let s = parts_stay f q.0 q.1 in
      let rise = up policy ps h.graph.nodes.items q.0.entry.0 q.0.exit.0 s.rises in
      record { below = below; begins = omega (arith, rise, begins_at f q.0 q.1, ends_at f q.0 q.1); ends = closed.exits f below }

  stays_in : (f p r : ℕ) → f < length h.graph.parts.items → IsOf (game_of h) f p → Contains (targets p (slice_get (game_of h).spots p)) r → IsOf (game_of h) f r
  stays_in f p r below is c =
      let q = get_below ps f below in
      let st = parts_stay f q.0 q.1 in
      let a = begins_at f q.0 q.1 in
      let z = ends_at f q.0 q.1 in
      let lt : p < length g.spots = let e = closed.exits f below in omega (arith, is.1, e) in
      let s = get_below g.spots p lt in
      let in_part = position_stays policy ps h.graph.nodes.items q.0.entry.0 q.0.exit.0 st.last st.is_last st.exit st.leads p r s.0 s.1 (omega (arith, is.0, a)) (omega (arith, is.1, z))
      (subst (λ (o : Option Spot). Contains (targets p o) r) s.1 c) in
      (omega (arith, in_part.0, a), omega (arith, in_part.1, z))

  is_called : (p : ℕ) (call : Called) → call_in (slice_get (game_of h).spots p) ≡ Some call → IsThere (game_of h) (length h.graph.parts.items) call.function
  is_called p call es = is_there call.function (by call.split (call_is (slice_get g.spots p) call es))
    where
      by : (split : Bool) → slice_get (game_of h).spots p ≡ Some (call_spot split call.seam call.function call.back) → call.function < length h.graph.parts.items
      by true e = (closed.leads p (SplitCall call.seam call.function call.back) e).0
      by false e = (closed.leads p (Call call.seam call.function call.back) e).0

  pub routed_of : AreRouted (game_of h) (length h.graph.parts.items)
  routed_of =
      let b = stay_below (uses_of policy h.graph.nodes.items) (lists_of h.states) made.lists in
      let start = b.start in
      let some : 0 < g.states.count = omega (arith, start) in
      let one : 1 ≤ g.states.count = some in
      let wide = mul-le-mul_left (length g.spots) one in
      record {
        some = some;
        few = few_by (nat_eq h.states.policy.format 2) g.states.count made.few.states;
        short = omega (arith, wide, made.pairs);
        pairs = made.pairs;
        closed = states_closed g b;
        stays = stays_in;
        main = is_there h.graph.main (main_is_there (names_of policy) made.graph.source made.graph.file h.graph made.graph.drawn made.graph.runnable);
        called = is_called;
      }
