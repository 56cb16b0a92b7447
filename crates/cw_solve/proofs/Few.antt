-- A game has at most as many cells as positions times states times sets of states: the positions of functions are apart, and a function's contexts differ in their sets.
use Rattle.std.proofs.Common.{◌≡◌, ℕ, zero, suc, ◌+◌, ◌-◌, ◌*◌, ◌^◌, ◌/◌, ◌%◌, ◌<◌, ◌≤◌, List, [], ◌∷◌, ◌++◌, Bool, false, ◌&&◌, nat_eq, Option, Some, None, length, take, map, refl, sym, ap, ◌∙◌, subst, arith, inl, inr, zero-mul}
use Rattle.std.specs.Prelude.{slice_get, option_map, sum_by, Contains}
use Rattle.std.specs.Int.{bit_at}
use Rattle.std.specs.List.{range_with_len}
use Rattle.std.proofs.Math.Nat.{mul-le-mul_left, mul-le-mul_right, div-add-mod, mul_comm, mul-add, add-mul, mul-zero, suc-mul}
use Rattle.std.proofs.Math.Pow.{pow-sub-lt}
use Rattle.std.proofs.lemmas.Bool.{cases_lt, le-ltb}
use Rattle.std.proofs.lemmas.List.{take_all}
use Rattle.std.proofs.lemmas.List.Elements.{Contains-append_left, Contains-append_right}
use Rattle.std.proofs.lemmas.List.FromFn.{length-range_with_len, get_or-range_with_len}
use Rattle.std.proofs.lemmas.List.Sums.{sum_by-append, sum_by-cons}
use Rattle.std.proofs.lemmas.Nat.Bits.{bit_at-zero, bit_at-lt, bit_at_cat_high, same_from_bits}
use Rattle.std.proofs.lemmas.Option.{none-some}
use Rattle.cw_lemmas.proofs.Lists.{contains_map, get_below}
use Rattle.std.proofs.lemmas.Nat.{mod_below}
use Rattle.cw_rights.specs.Policies.{PlainPolicy, policy_of}
use Rattle.cw_syntax.specs.Plans.{Routine, plan_of}
use Rattle.cw_resolve.specs.Scenes.{names_of}
use Rattle.cw_points.specs.declared.graph.Point.TheVariants as point
use Rattle.cw_points.specs.declared.graph.Node.{Node}
use Rattle.cw_points.specs.declared.graph.Part.{Part}
use Rattle.cw_points.specs.Points.{count_from}
use Rattle.cw_points.specs.Graphs.{exit_of, part, nodes, parts_from, splits_of}
use Rattle.cw_points.specs.Walks.{parts_of}
use Rattle.cw_positions.specs.Positions.{width, base, to, base_of}
use Rattle.cw_positions.proofs.Begins.{begin_more}
use Rattle.cw_positions.proofs.Leading.{length_nodes}
use Rattle.cw_positions.proofs.Lengths.{length_all}
use Rattle.cw_positions.proofs.Origins.{positions_are_of_points}
use Rattle.cw_positions.proofs.Programs.{of_graph}
use Rattle.cw_positions.specs.Origins.{IsOf}
use Rattle.cw_game.specs.declared.spots.Spot.{Spot}
use Rattle.cw_game.specs.declared.spots.Spot.TheVariants.{Call, SplitCall}
use Rattle.cw_game.specs.Games.{Game}
use Rattle.cw_game.specs.Pairs.{all_states, Called, call_in, is_call_in}
use Rattle.cw_product.specs.Made.{IsMade}
use Rattle.cw_product.specs.Product.{Held, game_of}
use Rattle.cw_product.specs.Routed.{AreRouted}
use Rattle.cw_solve.specs.declared.contexts.Context.{Context}
use Rattle.cw_solve.specs.Contexts.{context, size, cells_of, IsSetOf, IsNeeded, of_main, of_call, AreNeeded, AreTheNeeded, promise_at}
use Rattle.cw_solve.specs.Few.{most_cells}
use Rattle.cw_solve.proofs.Counts.{sum_within}
use Rattle.cw_product.proofs.Placing.{rise}
use Rattle.cw_solve.proofs.Routing.{routed_of}

-- ---- a set of states is a number below the power of two

bits_below : (k n : ℕ) → ((i : ℕ) → k ≤ i → bit_at n i ≡ 0) → n < 2 ^ k
bits_below k n none =
    let rest = n % 2 ^ k in
    let whole = n / 2 ^ k in
    let some : 2 ^ k - 1 < 2 ^ k = pow-sub-lt k (omega arith) in
    let low : rest < 2 ^ k = mod_below n (2 ^ k) (omega (arith, some)) in
    let e : whole * 2 ^ k + rest ≡ n = ap (λ m. m + rest) (mul_comm whole (2 ^ k)) ∙ div-add-mod n (2 ^ k) in
    let gone : whole ≡ 0 = same_from_bits whole 0 (λ i.
    let back : i + k - k ≡ i = omega arith in
    sym (ap (bit_at whole) back) ∙ sym (bit_at_cat_high whole k rest (i + k) low (omega arith)) ∙ ap (λ m. bit_at m (i + k)) e ∙ none (i + k) (omega arith) ∙ sym (bit_at-zero i)) in
    let nothing : whole * 2 ^ k ≡ 0 = ap (λ m. m * 2 ^ k) gone ∙ zero-mul (2 ^ k) in
    let same : rest ≡ n = omega (arith, e, nothing) in
    subst (λ m. m < 2 ^ k) same low

not_one : (b : ℕ) → b < 2 → (nat_eq b 1 ≡ false) → b ≡ 0
not_one zero l e = refl
not_one (suc zero) l e = cc
not_one (suc (suc b)) l e = absurd (omega arith)

module _ (g : Game) where
  set_below : (set : ℕ) (promise : ℕ → Bool) → IsSetOf g set promise → set < 2 ^ g.states.count
  set_below set promise is = bits_below g.states.count set (λ i le.
      not_one (bit_at set i) (bit_at-lt set i) (is i ∙ ap (λ b. b && promise i) (le-ltb i g.states.count le)))

  all_below : all_states g < 2 ^ g.states.count
  all_below = pow-sub-lt g.states.count (omega arith)

  -- every function below n with every set of states
  sets : List ℕ
  sets = range_with_len 0 (2 ^ g.states.count)

  every : ℕ → List Context
  every zero = []
  every (suc n) = every n ++ map (context n) sets

  in_sets : (set : ℕ) → set < 2 ^ g.states.count → Contains sets set
  unfolding sets
  in_sets set lt = (set, omega (arith, lt, length-range_with_len 0 (2 ^ g.states.count)), get_or-range_with_len 0 (2 ^ g.states.count) set set lt ∙ omega arith)

  in_every : (n f set : ℕ) → f < n → set < 2 ^ g.states.count → Contains (every n) (context f set)
  unfolding every
  in_every zero f set lt within = absurd (omega (arith, lt))
  in_every (suc n) f set lt within = elim (cases_lt f n) [
    | inl less ↦ Contains-append_left (every n) (map (context n) sets) (context f set) (in_every n f set less within)
    | inr ge ↦
        let e : n ≡ f = omega (arith, lt, ge) in
        subst (λ k. Contains (every n ++ map (context n) sets) (context k set)) e
        (Contains-append_right (every n) (map (context n) sets) (context n set) (contains_map (context n) sets set (in_sets set within)))
  ]

  one_more : (k m : ℕ) → m + k * m ≡ suc k * m
  one_more k m = omega (arith, suc-mul k m)

  each_same : (n : ℕ) (xs : List ℕ) → sum_by (λ (c : Context). size g c.function) (map (context n) xs) ≡ length xs * size g n
  each_same n [] = sym (zero-mul (size g n))
  each_same n (x ∷ xs) = sum_by-cons (λ (c : Context). size g c.function) (context n x) (map (context n) xs) ∙ ap (λ k. size g n + k) (each_same n xs) ∙ one_more (length xs) (size g n)

  module _ (functions : ℕ) (routed : AreRouted g functions) where
    pub there : (c : Context) → IsNeeded g c → (c.function < functions) × (c.promise < 2 ^ g.states.count)
    there _ of_main = (routed.main.below, all_below)
    there _ (of_call c n p q set call need of s es is) = ((routed.called p call es).below, set_below set (promise_at g n call.back _ c.promise) is)

    known : (c : Context) → IsNeeded g c → Contains (every functions) c
    known c need = let t = there c need in in_every functions c.function c.promise t.0 t.1

    cells_below : (all : List Context) → AreNeeded g all → cells_of g all ≤ sum_by (λ (c : Context). size g c.function) (every functions)
    cells_below all a = sum_within (λ (c : Context). size g c.function) all (every functions) a.distinct (λ c is. known c (a.needed c is))

-- ---- the positions of functions are apart

module _ (policy : PlainPolicy) (ps : List Part) (ns : List Node) where
  abbrev at : ℕ → ℕ
  at = base policy ps ns

  abbrev wide : Node → ℕ
  wide n = width policy ps n.point

  span : Part → ℕ
  span q = at q.exit.0 + 1 - at q.entry.0

  after : (p : ℕ) → p < length ns → at p + 1 ≤ at (p + 1)
  after p l = let n = get_below ns p l in omega (arith, begin_more wide ns p n.0 n.1)

  spans : (rs : List Routine) (splits : List Bool) (n : ℕ) → n + count_from rs ≤ length ns → sum_by span (parts_from rs splits n) + at n ≤ at (length ns)
  unfolding span
  spans [] splits n l = let z = rise wide ns n (length ns) (omega (arith, l)) in omega (arith, z)
  spans (r ∷ rs) [] n l = let z = rise wide ns n (length ns) (omega (arith, l)) in omega (arith, z)
  spans (r ∷ rs) (split ∷ splits) n l =
      let q = part n (exit_of r n) split in
      let rest = spans rs splits (exit_of r n + 1) (omega (arith, l)) in
      let up = rise wide ns n (exit_of r n) (omega arith) in
      let next = after (exit_of r n) (omega (arith, l)) in
      omega (arith, rest, up, next, sum_by-cons span q (parts_from rs splits (exit_of r n + 1)))

-- ---- both together

module _ (h : Held) (made : IsMade h) where
  abbrev policy : PlainPolicy
  policy = policy_of h.states.policy

  abbrev g : Game
  g = game_of h

  abbrev parts : List Part
  parts = h.graph.parts.items

  abbrev ns : List Node
  ns = h.graph.nodes.items

  -- the spans of all functions are within the positions
  all_spans : sum_by (span (policy_of h.states.policy) h.graph.parts.items h.graph.nodes.items) h.graph.parts.items ≤ length (game_of h).spots
  all_spans =
      let names = names_of policy in
      let plan = plan_of names made.graph.source made.graph.file in
      let splits = splits_of names made.graph.source made.graph.file in
      let sum = of_graph names made.graph.source made.graph.file h.graph (λ nodes ps m. sum_by (span policy ps nodes) ps ≤ base policy ps nodes (length nodes)) made.graph.drawn
      (let k = spans policy (parts_of names made.graph.source made.graph.file) (nodes plan) plan.routines splits 0 (omega (arith, length_nodes plan)) in omega (arith, k)) in
      let all : length g.spots ≡ base policy parts ns (length ns) = length_all policy parts (base policy parts ns) ns in
      omega (arith, sum, all)

  one_span : (f : ℕ) (q : Part) → slice_get h.graph.parts.items f ≡ Some q
      → (game_of h).exit f + 1 - (game_of h).entry f ≡ span (policy_of h.states.policy) h.graph.parts.items h.graph.nodes.items q
  unfolding span
  one_span f q e = ap (λ (o : Option Part). to (base_of h.graph policy) (option_map (λ (p : Part). p.exit.0) o) + 1 - to (base_of h.graph policy) (option_map (λ (p : Part). p.entry.0) o)) e

  every_sum : (n : ℕ) → n ≤ length h.graph.parts.items
      → sum_by (λ (c : Context). size (game_of h) c.function) (every (game_of h) n)
      ≡ 2 ^ (game_of h).states.count * (sum_by (span (policy_of h.states.policy) h.graph.parts.items h.graph.nodes.items) (take n h.graph.parts.items) * (game_of h).states.count)
  unfolding every sets
  every_sum zero le = sym (ap (λ k. 2 ^ g.states.count * k) (zero-mul g.states.count) ∙ mul-zero (2 ^ g.states.count))
  every_sum (suc n) le =
      let q = get_below parts n (omega (arith, le)) in
      let one = span policy parts ns q.0 in
      let before = sum_by (span policy parts ns) (take n parts) in
      let more : sum_by (span policy parts ns) (take (suc n) parts) ≡ before + one =
      let z : n + 1 ≡ suc n = omega arith in ap (λ k. sum_by (span policy parts ns) (take k parts)) (sym z) ∙ begin_more (span policy parts ns) parts n q.0 q.1 in
      sum_by-append (λ (c : Context). size g c.function) (every g n) (map (context n) (sets g))
      ∙ ap (λ k. k + sum_by (λ (c : Context). size g c.function) (map (context n) (sets g))) (every_sum n (omega (arith, le)))
      ∙ ap (λ k. 2 ^ g.states.count * (before * g.states.count) + k) (each_same g n (sets g) ∙ ap (λ k. k * size g n) (length-range_with_len 0 (2 ^ g.states.count))
      ∙ ap (λ k. 2 ^ g.states.count * (k * g.states.count)) (one_span n q.0 q.1))
      ∙ sym (mul-add (2 ^ g.states.count) (before * g.states.count) (one * g.states.count))
      ∙ ap (λ k. 2 ^ g.states.count * k) (sym (add-mul before one g.states.count) ∙ ap (λ k. k * g.states.count) (sym more))

  pub cells_are_few : (some : List Context) → AreNeeded (game_of h) some → cells_of (game_of h) some ≤ most_cells (game_of h)
  cells_are_few some a =
      let n = length parts in
      let below = cells_below g n (routed_of h made) some a in
      let sum = every_sum n (omega arith) in
      let whole : take n parts ≡ parts = take_all n parts (omega arith) in
      let spans_all = all_spans in
      let few = mul-le-mul_right g.states.count (subst (λ l. sum_by (span policy parts ns) l ≤ length g.spots) (sym whole) spans_all) in
      let most = mul-le-mul_left (2 ^ g.states.count) few in
      let turned = mul_comm (2 ^ g.states.count) (length g.spots * g.states.count) in
      omega (arith, below, sum, most, turned)

-- ---- without calls

-- what isn't a call calls nothing
pub uncalled : (o : Option Spot) (call : Called) → is_call_in o ≡ false → call_in o ≡ Some call → ⊥
uncalled (Some (Call j f n)) call e c = cc
uncalled (Some (SplitCall j f n)) call e c = cc
uncalled _ call e c = none-some call c

module _ (g : Game) (never : (p : ℕ) → is_call_in (slice_get g.spots p) ≡ false) where
  only_main : (c : Context) → IsNeeded g c → c ≡ context g.main (all_states g)
  only_main _ of_main = refl
  only_main _ (of_call c n p q set call need of s es is) = absurd (uncalled (slice_get g.spots p) call (never p) es)

  pub one_context : (all : List Context) → AreTheNeeded g all → all ≡ context g.main (all_states g) ∷ []
  one_context [] a = absurd (none-some (context g.main (all_states g)) a.first)
  one_context (c ∷ []) a = ap (λ (x : Context). x ∷ []) (only_main c (a.some.needed c (0, omega arith, refl)))
  one_context (c ∷ (d ∷ rest)) a =
      absurd (a.some.distinct 0 1 c (omega arith) (omega arith)
      (only_main c (a.some.needed c (0, omega arith, refl)) ∙ sym (only_main d (a.some.needed d (1, omega arith, refl)))))

no_call_spot : (policy : PlainPolicy) (parts : List Part) (n : Node) (s : Spot) → ((f : ℕ) → n.point ≡ point.Call f → ⊥) → IsOf policy parts n s → is_call_in (Some s) ≡ false
no_call_spot _ _ n (Call j f k) never h = absurd (never f h.1)
no_call_spot _ _ n (SplitCall j f k) never h = absurd (never f h.1)
no_call_spot _ _ n _ never h = refl

pub without_calls : (h : Held) (all : List Context) → ((p f : ℕ) (n : Node) → slice_get h.graph.nodes.items p ≡ Some n → n.point ≡ point.Call f → ⊥)
    → AreTheNeeded (game_of h) all → all ≡ context (game_of h).main (all_states (game_of h)) ∷ []
without_calls h all never a = one_context (game_of h) (λ p. go p (slice_get (game_of h).spots p) refl) all a
  where
    go : (p : ℕ) (o : Option Spot) → slice_get (game_of h).spots p ≡ o → is_call_in (slice_get (game_of h).spots p) ≡ false
    go p None e = ap is_call_in e
    go p (Some s) e =
        let k = positions_are_of_points h.graph (policy_of h.states.policy) p s e in
        ap is_call_in e ∙ no_call_spot (policy_of h.states.policy) h.graph.parts.items k.1 s (λ f x. never k.0 f k.1 k.2 x) k.3
