-- The strategy that the start's keys give, and how many rows it has.
use Rattle.std.proofs.Common.{◌≡◌, ℕ, ◌+◌, ◌<◌, ◌≤◌, List, [], ◌∷◌, true, false, map, length, Option, Some, None, refl, sym, ap, ◌∙◌, subst, arith}
use Rattle.std.specs.Prelude.{sum_by}
use Rattle.std.specs.List.{Contains}
use Rattle.std.specs.List.Sorted.{IsStrictlySortedBy}
use Rattle.std.specs.Ordering.{eq_by_cmp, is_eq}
use Rattle.std.specs.Bool.{Decides}
use Rattle.std.specs.Cmp.{eq_by_cmp_equiv, tied_itself}
use Rattle.std.proofs.lemmas.Map.Keys.{IsDistinct-from_sorted}
use Rattle.std.proofs.lemmas.Map.Made.{length-le_from_is_member, is_member-Decides}
use Rattle.cw_certs.specs.Strategies.{Strategy}
use Rattle.cw_fixpoint.specs.Closures.{Reached, first, then, Exactly, HasMore}
use Rattle.cw_game.specs.Games.{Game}
use Rattle.cw_game.specs.Pairs.{all_states}
use Rattle.cw_product.specs.Product.{Held as HeldGame, game_of}
use Rattle.cw_solve.specs.Contexts.{context, HeightIs, AreTheNeeded}
use Rattle.cw_product.specs.Made.{IsMade}
use Rattle.cw_product.specs.Routed.{AreRouted}
use Rattle.cw_solve.specs.Solved.{Held, IsNumbered, IsHeightIn}
use Rattle.cw_solve.proofs.Routing.{routed_of}
use Rattle.cw_least_strategy.specs.declared.key.Key.{Key}
use Rattle.cw_least_strategy.specs.Acts.{backs_of, IsLost, IsStartHeight, IsStartKey}
use Rattle.cw_least_strategy.specs.Kept.{IsKey, IsFollowed}
use Rattle.cw_least_strategy.specs.Strategies.{key_cmp, named, row_at, start_key, rows_of, IsLeastStrategy}
use Rattle.cw_fixpoint.proofs.Numbers.{equal_is}
use Rattle.cw_least_strategy.proofs.Keys.{key_total, key_exact, same_key}
use Rattle.cw_least_strategy.proofs.Counting.{exactly_same, count_is}
use Rattle.cw_least_strategy.proofs.Lowest as lowest
use Rattle.cw_least_strategy.proofs.Made.{start_state}
use Rattle.cw_least_strategy.proofs.Naming.{all_keys, reached_keys, start_is}
use Rattle.cw_least_strategy.proofs.Tall.{as_many}
use Rattle.cw_lemmas.proofs.Lists.{head_in}

decides_key : (a b : Key) → Decides (eq_by_cmp key_cmp a b) (a ≡ b)
decides_key a b = (λ e. equal_is key_cmp key_total key_exact a b e, λ e. subst (λ y. eq_by_cmp key_cmp a y ≡ true) e (ap is_eq (tied_itself key_total a)))

-- ascending keys that are all among others are no more than they
few_keys : (xs ys : List Key) → IsStrictlySortedBy key_cmp xs → ((k : Key) → Contains xs k → Contains ys k) → length xs ≤ length ys
few_keys xs ys s h =
    length-le_from_is_member (eq_by_cmp_equiv key_total) xs ys (IsDistinct-from_sorted key_cmp xs s)
    (λ q e. (is_member-Decides decides_key ys q).1 (h q ((is_member-Decides decides_key xs q).0 e)))

-- all keys that are reached from one
abbrev pub AreFrom : Game → Key → List Key → Type 0
AreFrom g k keys = Exactly key_cmp (Reached (named g) (k ∷ [])) keys

module _ (h : Held) (made : IsMade h.game) where
  abbrev g : Game
  g = game_of h.game

  abbrev functions : ℕ
  functions = length h.game.graph.parts.items

  pub routed : AreRouted g functions
  routed = routed_of h.game made

  -- the start stands in the first context
  pub start_numbered : AreTheNeeded g h.contexts → IsNumbered h 0 (g.entry g.main) g.states.start
  start_numbered n = (context g.main (all_states g), n.first, (omega arith, routed.main.begins), start_state h.game made)

  -- where the game that is held is this one
  module _ (x : HeldGame) (same : x ≡ h.game) (p q : ℕ) (at : p ≡ (game_of x).entry (game_of x).main)
      (in' : q ≡ (game_of x).states.start) where
    pub pos_is : p ≡ g.entry g.main
    pos_is = at ∙ ap (λ (y : HeldGame). (game_of y).entry (game_of y).main) same

    pub state_is : q ≡ g.states.start
    state_is = in' ∙ ap (λ (y : HeldGame). (game_of y).states.start) same

    pub start_cell : AreTheNeeded g h.contexts → IsNumbered h 0 p q
    start_cell n =
        subst (λ (k : ℕ). IsNumbered h 0 k q) (sym pos_is)
        (subst (λ (k : ℕ). IsNumbered h 0 (g.entry g.main) k) (sym state_is) (start_numbered n))

    height_there : (o : Option ℕ) → AreTheNeeded g h.contexts → IsHeightIn h 0 p q o → HeightIs g (g.entry g.main) g.states.start (all_states g) o
    height_there o n i =
        subst (λ (k : ℕ). HeightIs g (g.entry g.main) k (all_states g) o) state_is
        (subst (λ (k : ℕ). HeightIs g k q (all_states g) o) pos_is
        (i (context g.main (all_states g)) n.first))

    pub start_high : (height : ℕ) → AreTheNeeded g h.contexts → IsHeightIn h 0 p q (Some height) → IsStartHeight g height
    start_high height n i = height_there (Some height) n i

    pub start_kept : AreTheNeeded g h.contexts → IsHeightIn h 0 p q None → IsLost g → ⊥
    start_kept n i lost = let w : true ≡ false = sym (height_there None n i lost.0) ∙ lost.1.lost in cc

    pub start_key_of : (height aim : ℕ) → IsStartHeight g height → aim ≡ 0 → IsStartKey g (record { height = height; pos = p; state = q; aim = aim })
    start_key_of height aim is none =
        (height, is, same_key height p q aim height (g.entry g.main) g.states.start 0 refl pos_is state_is none)

  start_key_is : (k : Key) → IsStartKey g k → IsKey g functions k
  start_key_is k s = subst (IsKey g functions) (sym s.2) (start_is g functions routed s.0 (start_state h.game made) s.1)

  -- it may be asked for, and all that it names
  pub start_followed : (k : Key) → IsStartKey g k → IsFollowed h k
  start_followed k s = record { routed = routed; keys = λ b l. all_keys g functions routed k b (start_key_is k s) l }

  -- the strategy
  pub least_of : (k : Key) → IsStartKey g k → (keys : List Key) → AreFrom g k keys → (s : Strategy) → s.states ≡ g.states.count
      → s.rows ≡ map (row_at g keys) keys → IsLeastStrategy g s
  least_of k st keys e s n r = record {
    height = st.0;
    is_height = st.1;
    keys = keys;
    exactly = subst (λ b. AreFrom g b keys) st.2 e;
    states = n;
    rows = r;
  }

  -- all strategies by least heights have the keys that this start key's reaches
  keys_from : (k : Key) → IsStartKey g k → (s : Strategy) (is : IsLeastStrategy g s) → AreFrom g k is.keys
  keys_from k st s is =
      let same : is.height ≡ st.0 = lowest.one_height g functions routed (g.entry g.main) g.states.start (all_states g) (start_state h.game made) is.height st.0 is.is_height st.1 in
      subst (λ b. AreFrom g b is.keys) (ap (start_key g) same ∙ sym st.2) is.exactly

  -- a strategy has at least as many rows as the start is high
  pub start_low : (k : Key) → IsStartKey g k → (s : Strategy) → IsLeastStrategy g s → k.height ≤ rows_of s
  start_low k st s is =
      let all = keys_from k st s is in
      let are : (b : Key) → Contains is.keys b → IsKey g functions b = λ b c. reached_keys g functions routed k b (start_key_is k st) ((all.1 b).0 c) in
      let closed : (a b : Key) → Contains is.keys a → Contains (named g a) b → Contains is.keys b = λ a b c i. (all.1 b).1 (then a b ((all.1 a).0 c) i) in
      let low = as_many g functions routed is.keys all.0 are closed k ((all.1 k).1 (first k (head_in k []))) in
      let count = count_is g is.keys s is.rows in
      omega (arith, low, count)

  -- more keys than may be are more rows
  pub keys_many : (k : Key) → IsStartKey g k → (n : ℕ) → HasMore key_cmp (Reached (named g) (k ∷ [])) n → (s : Strategy) → IsLeastStrategy g s → n < rows_of s
  keys_many k st n more s is =
      let all = keys_from k st s is in
      let few = few_keys more.0 is.keys more.1 (λ q c. (all.1 q).1 (more.2 q c)) in
      let count = count_is g is.keys s is.rows in
      omega (arith, few, count, more.3)

  -- and so are more rows and backs
  pub rows_many : (k : Key) → IsStartKey g k → (keys : List Key) (n : ℕ) → AreFrom g k keys → n < length keys + sum_by (backs_of g keys) keys
      → (s : Strategy) → IsLeastStrategy g s → n < rows_of s
  rows_many k st keys n e more s is =
      let same : is.keys ≡ keys = exactly_same (Reached (named g) (k ∷ [])) is.keys keys (keys_from k st s is) e in
      let count = count_is g keys s (is.rows ∙ ap (λ l. map (row_at g l) l) same) in
      omega (arith, more, count)
