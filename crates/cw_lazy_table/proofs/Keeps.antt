-- What is live by numbers, as the code has it, and the lists of the lazy table.
use Rattle.std.proofs.Common.{◌≡◌, ℕ, ◌<◌, List, Some, map, filter_map, length, refl, sym, ap, ap₂, ◌∙◌, subst, arith}
use Rattle.std.specs.Prelude.{slice_get, slice_index}
use Rattle.std.specs.List.{Contains}
use Rattle.std.specs.Ordering.{nat_cmp}
use Rattle.std.specs.FinMap.{nat_cmp-IsAntisymmetric}
use Rattle.std.specs.Cmp.{nat_cmp_total}
use Rattle.std.proofs.lemmas.Option.{slice_get-get_or, slice_get_within, get_or_from_slice_get}
use Rattle.std.proofs.lemmas.List.Elements.{Contains-get_or}
use Rattle.std.proofs.lemmas.List.{length-map}
use Rattle.cw_core.specs.declared.ids.MemId.{MemId}
use Rattle.cw_core.specs.declared.ids.PosId.{PosId}
use Rattle.cw_core.specs.declared.ids.StateId.{StateId}
use Rattle.cw_certs.specs.declared.rows.TryRow.{TryRow}
use Rattle.cw_certs.specs.declared.rows.AtRow.{AtRow}
use Rattle.cw_certs.specs.declared.rows.OpenRow.{OpenRow}
use Rattle.cw_certs.specs.declared.rows.IntoRow.{IntoRow}
use Rattle.cw_certs.specs.declared.rows.BackRow.{BackRow}
use Rattle.cw_certs.specs.Ascending.{mem_cmp, live_cmp, try_cmp, at_cmp, open_cmp, into_cmp, back_cmp}
use Rattle.cw_fixpoint.specs.Closures.{Exactly}
use Rattle.cw_fixpoint.specs.Numbers.{number_in}
use Rattle.cw_game.specs.Games.{Game}
use Rattle.cw_game.specs.Pairs.{all_states}
use Rattle.cw_lemmas.proofs.Lists.{contains_map}
use Rattle.cw_product.specs.Moves.{IsPosition, IsState}
use Rattle.cw_product.specs.Product.{Held as HeldGame, game_of}
use Rattle.cw_solve.specs.Contexts.{of_main}
use Rattle.cw_solve.specs.Solved.{Held}
use Rattle.cw_lazy_table.specs.declared.key.Key.{Key}
use Rattle.cw_lazy_table.specs.Kinds.{SpotKind}
use Rattle.cw_lazy_table.specs.Kinds as kind
use Rattle.cw_lazy_table.specs.declared.seam_key.SeamKey.{SeamKey}
use Rattle.cw_lazy_table.specs.Choices.{set_in, IsReady}
use Rattle.cw_lazy_table.specs.Lazy.{Means, IsLiveRow, IsTryRow, IsLabelRow, IsOpenRow, IsCloseRow, IsIntoRow, IsBackRow}
use Rattle.cw_lazy_table.specs.Numbered.{whole, whole_seam_key, whole_memory, whole_pair, whole_return, lost_by, set_at, CanAsk, AreNumbered, ArePaired, AreKept, ArePromised}
use Rattle.cw_lazy_table.specs.SeamKeys.{seam_key_cmp, seam_key_of, key_of, memory_of, AreOf, return_cmp, return_of}
use Rattle.cw_lazy_table.specs.Rowing.{Memories, number, mem, live_row, try_row, at_row, open_row, into_row, back_row}
use Rattle.cw_lazy_table.proofs.Numbering.{set_of_call}
use Rattle.cw_lazy_table.proofs.Placing.{call_there}
use Rattle.cw_lazy_table.proofs.Putting.{listed_of}
use Rattle.cw_lazy_table.proofs.Tabled as by_promise
use Rattle.cw_lazy_table.proofs.Wholes.{seam_key_within, seam_key_whole, memory_within, memories_whole, return_within, returns_whole}
use Rattle.cw_lazy_table.proofs.Wholes.{number_whole, live_rows_whole, at_rows_whole, open_rows_whole, try_rows_whole, into_rows_whole, back_rows_whole}
use Rattle.cw_fixpoint.proofs.Numbers.{stands, below, number_at}

module _ (h : HeldGame) (es : List ℕ) (keys : List Key) (live : AreNumbered h es keys) where
  abbrev g : Game
  g = game_of h

  abbrev ws : List Key
  ws = map (whole es) keys

  pub position : (x : Key) → Contains keys x → IsPosition g x.pos
  position x c = by_promise.position h ws live.live (whole es x) (contains_map (whole es) keys x c)

  -- the keys at positions of a kind
  module _ (k : SpotKind) (ys : List SeamKey) (are : Exactly seam_key_cmp (Contains (filter_map (seam_key_of g k) keys)) ys) where
    abbrev vs : List SeamKey
    vs = map (whole_seam_key es) ys

    all : Exactly seam_key_cmp (Contains (filter_map (seam_key_of g k) ws)) vs
    all = seam_key_whole g es live.promises.order keys live.within k ys are

    within : (x : SeamKey) → Contains ys x → x.promise < length es
    within x c = seam_key_within g es live.promises.order keys live.within k x ((are.1 x).0 c)

    pub seam_key_range : (x : SeamKey) → Contains ys x → IsPosition g x.pos × IsState g x.state
    seam_key_range x c = by_promise.seam_key_range h ws live.live k vs all (whole_seam_key es x) (contains_map (whole_seam_key es) ys x c)

    pub seam_key_can : (s : Held) → IsReady h s → (x : SeamKey) → Contains ys x → CanAsk h s es (key_of x)
    seam_key_can s ready x c = record {
      promises = live.promises;
      within = within x c;
      can = by_promise.seam_key_can h ws live.live k vs all s ready (whole_seam_key es x) (contains_map (whole_seam_key es) ys x c);
    }

  -- the memories
  pub mems_of : (all given : List (StateId × ℕ)) (found ms : Memories) → given ≡ all → AreOf (map memory_of keys) all → Exactly mem_cmp (Contains given) found → ms ≡ found → AreKept g es ms
  mems_of all given found ms a b e m =
      let are : Exactly mem_cmp (Contains (map memory_of keys)) ms =
      subst (λ (l : Memories). Exactly mem_cmp (Contains (map memory_of keys)) l) (sym m)
      (listed_of mem_cmp (map memory_of keys) all found b (subst (λ (l : List (StateId × ℕ)). Exactly mem_cmp (Contains l) found) a e)) in
      let kept = by_promise.memories_are h ws live.live (map (whole_memory es) ms) (memories_whole g es live.promises.order keys live.within ms are) in
      let long = length-map ms (whole_memory es) in
      let few = kept.few in
      record {
        promises = live.promises;
        within = λ x c. memory_within g es live.promises.order keys live.within x ((are.1 x).0 c);
        order = record { order = are.0; few = omega (arith, long, few) };
        all = kept;
      }

  -- and the lists by them
  module _ (ms : Memories) (kept : AreKept g es ms) where
    abbrev us : Memories
    us = map (whole_memory es) ms

    pub live_are : (rows : List (PosId × MemId)) → rows ≡ map (live_row ms) keys → Exactly live_cmp (IsLiveRow g us) rows
    live_are rows e = by_promise.live_are h ws live.live us kept.all rows (e ∙ live_rows_whole g es live.promises.order ms kept.within keys live.within)

    pub tries_are : (ys : List SeamKey) → Exactly seam_key_cmp (Contains (filter_map (seam_key_of g kind.Asked) keys)) ys → (rows : List TryRow) → rows ≡ map (try_row g (lost_by g es) ms) ys
        → Exactly try_cmp (IsTryRow g us) rows
    tries_are ys are rows e =
        by_promise.tries_are h ws live.live us kept.all (vs kind.Asked ys are) (all kind.Asked ys are) rows
        (e ∙ try_rows_whole g es live.promises.order ms kept.within ys (within kind.Asked ys are))

    pub labels_are : (ys : List SeamKey) → Exactly seam_key_cmp (Contains (filter_map (seam_key_of g kind.Label) keys)) ys → (rows : List AtRow) → rows ≡ map (at_row g ms) ys
        → Exactly at_cmp (IsLabelRow g us) rows
    labels_are ys are rows e =
        by_promise.labels_are h ws live.live us kept.all (vs kind.Label ys are) (all kind.Label ys are) rows
        (e ∙ at_rows_whole g es live.promises.order ms kept.within ys (within kind.Label ys are))

    pub opens_are : (ys : List SeamKey) → Exactly seam_key_cmp (Contains (filter_map (seam_key_of g kind.Open) keys)) ys → (rows : List OpenRow) → rows ≡ map (open_row g ms) ys
        → Exactly open_cmp (IsOpenRow g us) rows
    opens_are ys are rows e =
        by_promise.opens_are h ws live.live us kept.all (vs kind.Open ys are) (all kind.Open ys are) rows
        (e ∙ open_rows_whole g es live.promises.order ms kept.within ys (within kind.Open ys are))

    pub closes_are : (ys : List SeamKey) → Exactly seam_key_cmp (Contains (filter_map (seam_key_of g kind.Close) keys)) ys → (rows : List AtRow) → rows ≡ map (at_row g ms) ys
        → Exactly at_cmp (IsCloseRow g us) rows
    closes_are ys are rows e =
        by_promise.closes_are h ws live.live us kept.all (vs kind.Close ys are) (all kind.Close ys are) rows
        (e ∙ at_rows_whole g es live.promises.order ms kept.within ys (within kind.Close ys are))

    pub calls_are : (ys : List SeamKey) → Exactly seam_key_cmp (Contains (filter_map (seam_key_of g kind.Call) keys)) ys → (rows : List IntoRow) → rows ≡ map (into_row (set_at g es) ms) ys
        → Exactly into_cmp (IsIntoRow g us) rows
    calls_are ys are rows e =
        by_promise.calls_are h ws live.live us kept.all (vs kind.Call ys are) (all kind.Call ys are) rows
        (e ∙ into_rows_whole g es live.promises.order ms kept.within ys (within kind.Call ys are) there)
      where
        there : (x : SeamKey) → Contains ys x → Contains es (set_in g x.pos x.state (slice_index es x.promise))
        there x c =
            let p = ((by_promise.seam_keys_are h ws live.live kind.Call (vs kind.Call ys are) (all kind.Call ys are)).1 (whole_seam_key es x)).0 (contains_map (whole_seam_key es) ys x c) in
            let s = call_there (slice_get g.spots x.pos) x.seam x.part p.at in
            set_of_call g (length h.graph.parts.items) live.live.begins live.live.low es live.promises x.pos x.state (slice_index es x.promise) s.0 p.live s.1

    -- the table
    pub start_means : (q n : ℕ) → q ≡ g.states.start → n ≡ number_in nat_cmp es (all_states g) → Means us (mem ms q n).0 g.states.start (all_states g)
    start_means q n a b =
        let c = live.promises.all g.main (all_states g) of_main in
        let f = stands es live.promises.order (all_states g) c in
        let l : n < length es = subst (λ (x : ℕ). x < length es) (sym b) (below es live.promises.order (all_states g) c) in
        subst (λ (x : ℕ). Means us x g.states.start (all_states g))
        (sym (number_whole g es live.promises.order ms q n l kept.within ∙ ap₂ (number us) a (ap (λ (x : ℕ). slice_index es x) b ∙ f)))
        (by_promise.start_means h ws live.live us kept.all g.states.start (all_states g) refl refl)

-- the returns
module _ (h : HeldGame) (es : List ℕ) (pairs : List (Key × Key)) (returns : ArePaired h es pairs) where
  abbrev whole_pairs : List (Key × Key)
  whole_pairs = map (whole_pair es) pairs

  pub pair_position : (ab : Key × Key) → Contains pairs ab → IsPosition (game_of h) ab.0.pos
  pair_position ab c = by_promise.pair_position h whole_pairs returns.returns (whole_pair es ab) (contains_map (whole_pair es) pairs ab c)

  module _ (ys : List (SeamKey × Key)) (are : Exactly return_cmp (Contains (filter_map (return_of (game_of h)) pairs)) ys) where
    all_returns : Exactly return_cmp (Contains (filter_map (return_of (game_of h)) (map (whole_pair es) pairs))) (map (whole_return es) ys)
    all_returns = returns_whole (game_of h) es returns.promises.order pairs returns.within ys are

    pub return_states : (x : SeamKey × Key) → Contains ys x → IsState (game_of h) x.0.state × IsState (game_of h) x.1.state
    return_states x c = by_promise.return_states h whole_pairs returns.returns (map (whole_return es) ys) all_returns (whole_return es x) (contains_map (whole_return es) ys x c)

    pub return_promises : ArePromised (game_of h) es ys
    return_promises x c =
        let p = by_promise.return_promise h whole_pairs returns.returns (map (whole_return es) ys) all_returns (whole_return es x) (contains_map (whole_return es) ys x c) in
        let l = (return_within (game_of h) es returns.promises.order pairs returns.within x ((are.1 x).0 c)).1 in
        sym (number_at nat_cmp nat_cmp_total nat_cmp-IsAntisymmetric es x.1.promise (slice_index es x.1.promise) returns.promises.order (slice_get-get_or es x.1.promise 0 l))
        ∙ ap (number_in nat_cmp es) p

    pub backs_are : (ms : Memories) → AreKept (game_of h) es ms → (rows : List BackRow) → rows ≡ map (back_row (game_of h) ms) ys
        → Exactly back_cmp (IsBackRow (game_of h) (map (whole_memory es) ms)) rows
    backs_are ms kept rows e =
        by_promise.backs_are h whole_pairs returns.returns (map (whole_return es) ys) all_returns (map (whole_memory es) ms) kept.all rows
        (e ∙ back_rows_whole (game_of h) es returns.promises.order ms kept.within ys (λ x c. (return_within (game_of h) es returns.promises.order pairs returns.within x ((are.1 x).0 c)).0))

-- what a return that stands in the list tells of its call
pub told_by : (g : Game) (es : List ℕ) (xs : List (SeamKey × Key)) (i : ℕ) (x : SeamKey × Key) (y : SeamKey) → ArePromised g es xs → slice_get xs i ≡ Some x → x.0 ≡ y
    → x.1.promise ≡ set_at g es y.pos y.state y.promise
told_by g es xs i x y are at e =
    are x (subst (Contains xs) (get_or_from_slice_get xs i x x at) (Contains-get_or xs i x (slice_get_within xs i x at))) ∙ ap (λ (z : SeamKey). set_at g es z.pos z.state z.promise) e
