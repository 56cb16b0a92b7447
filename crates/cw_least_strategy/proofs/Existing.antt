-- A game whose start is lost has a strategy by least heights: the keys that the start's names are within a finite set, since heights fall.
use Rattle.std.proofs.Common.{ℕ, ◌+◌, ◌^◌, ◌<◌, ◌≤◌, List, [], ◌∷◌, map, length, refl, ap, subst, arith}
use Rattle.std.specs.List.{Contains, flat_map}
use Rattle.cw_lemmas.proofs.Lists.{contains_one, contains_map, head_in}
use Rattle.cw_certs.specs.Strategies.{Strategy}
use Rattle.cw_fixpoint.specs.Closures.{Reached, first, then, Exactly}
use Rattle.cw_fixpoint.proofs.Existing.{closed_in, in_flat, of_flat, numbers, in_numbers}
use Rattle.cw_game.specs.Games.{Game}
use Rattle.cw_game.specs.Pairs.{all_states}
use Rattle.cw_product.specs.Routed.{AreRouted}
use Rattle.cw_solve.specs.Contexts.{context, IsHeight}
use Rattle.cw_solve.proofs.Tabling.{there}
use Rattle.cw_least_strategy.specs.declared.key.Key.{Key}
use Rattle.cw_least_strategy.specs.Heights.{others}
use Rattle.cw_least_strategy.specs.Kept.{IsKey}
use Rattle.cw_least_strategy.specs.Strategies.{key_cmp, named, row_at, start_key, IsLeastStrategy}
use Rattle.cw_least_strategy.proofs.Keys.{key_total, key_exact}
use Rattle.cw_least_strategy.proofs.Naming.{named_lower, reached_keys, start_is}

module _ (g : Game) (functions : ℕ) (routed : AreRouted g functions) (k : Key) (is : IsKey g functions k) where
  not_higher : (b : Key) → Reached (named g) (k ∷ []) b → b.height ≤ k.height
  not_higher b (first c i) = let e = ap (λ (z : Key). z.height) (contains_one k b i) in omega (arith, e)
  not_higher b (then a c r i) =
      let l = (named_lower g functions routed a (reached_keys g functions routed k a is r) b i).1 in
      let h = not_higher a r in
      omega (arith, l, h)

  abbrev key_at : ℕ → ℕ → ℕ → ℕ → Key
  key_at h p q a = record { height = h; pos = p; state = q; aim = a }

  abbrev at_state : ℕ → ℕ → ℕ → List Key
  at_state h p q = map (key_at h p q) (numbers (2 ^ g.states.count))

  abbrev at_pos : ℕ → ℕ → List Key
  at_pos h p = flat_map (at_state h p) (numbers g.states.count)

  abbrev at_height : ℕ → List Key
  at_height h = flat_map (at_pos h) (numbers (length g.spots))

  universe : List Key
  universe = flat_map at_height (numbers (k.height + 1))

  in_universe : (b : Key) → Reached (named g) (k ∷ []) b → Contains universe b
  unfolding universe
  in_universe b r =
      let y = reached_keys g functions routed k b is r in
      let th = there g functions routed (context y.function (others g b.aim)) y.needed in
      let below : b.pos < length g.spots = let a = y.of.1 in let e = th.ends in omega (arith, a, e) in
      let low : b.height < k.height + 1 = let h = not_higher b r in omega (arith, h) in
      in_flat at_height (numbers (k.height + 1)) b.height b (in_numbers (k.height + 1) b.height low)
      (in_flat (at_pos b.height) (numbers (length g.spots)) b.pos b (in_numbers (length g.spots) b.pos below)
      (in_flat (at_state b.height b.pos) (numbers g.states.count) b.state b (in_numbers g.states.count b.state y.state)
      (contains_map (key_at b.height b.pos b.state) (numbers (2 ^ g.states.count)) b.aim (in_numbers (2 ^ g.states.count) b.aim y.aim))))

  sound : (xs : List Key) → ((x : Key) → Contains xs x → Reached (named g) (k ∷ []) x) → (y : Key) → Contains (flat_map (named g) xs) y → Reached (named g) (k ∷ []) y
  sound xs are y h = let z = of_flat (named g) xs y h in then z.0 y (are z.0 z.1) z.2

  all_in : (ys : List Key) → Contains ys k → ((x : Key) → Contains (flat_map (named g) ys) x → Contains ys x) → (b : Key) → Reached (named g) (k ∷ []) b → Contains ys b
  all_in ys has closed b (first c i) = subst (λ z. Contains ys z) (contains_one k b i) has
  all_in ys has closed b (then a c r i) = closed b (in_flat (named g) ys a b (all_in ys has closed a r) i)

  pub keys_there : (ys : List Key) × Exactly key_cmp (Reached (named g) (k ∷ [])) ys
  keys_there =
      let c = closed_in key_cmp key_total key_exact (Reached (named g) (k ∷ [])) (flat_map (named g)) sound universe (k ∷ []) in_universe (λ x h. first x h) in
      (c.0, (c.1.order, λ b. (c.1.are b, all_in c.0 (c.1.has k (head_in k [])) c.1.closed b)))

pub strategy_there : (g : Game) (functions : ℕ) → AreRouted g functions → g.states.start < g.states.count → (height : ℕ) → IsHeight g (g.entry g.main) g.states.start (all_states g) height
    → (s : Strategy) × IsLeastStrategy g s
strategy_there g functions routed start height is =
    let keys = keys_there g functions routed (start_key g height) (start_is g functions routed height start is) in (
      record { states = g.states.count; rows = map (row_at g keys.0) keys.0 },
      record { height = height; is_height = is; keys = keys.0; exactly = keys.1; states = refl; rows = refl },
    )
