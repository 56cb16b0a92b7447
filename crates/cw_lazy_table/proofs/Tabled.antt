-- The lists of what is live are those of the lazy table.
use Rattle.std.proofs.Common.{◌≡◌, ℕ, ◌<◌, List, map, filter_map, length, sym, ap₂, subst, arith}
use Rattle.std.specs.List.{Contains}
use Rattle.std.proofs.lemmas.List.{length-map}
use Rattle.cw_core.specs.declared.ids.MemId.{MemId}
use Rattle.cw_core.specs.declared.ids.PosId.{PosId}
use Rattle.cw_core.specs.declared.ids.StateId.{StateId}
use Rattle.cw_certs.specs.declared.rows.TryRow.{TryRow}
use Rattle.cw_certs.specs.declared.rows.AtRow.{AtRow}
use Rattle.cw_certs.specs.declared.rows.OpenRow.{OpenRow}
use Rattle.cw_certs.specs.declared.rows.IntoRow.{IntoRow}
use Rattle.cw_certs.specs.declared.rows.BackRow.{BackRow}
use Rattle.cw_certs.specs.Ascending.{mem_cmp, live_cmp, try_cmp, at_cmp, open_cmp, into_cmp, back_cmp, Ascends}
use Rattle.cw_certs.specs.Tables.{Table, table_with}
use Rattle.cw_fixpoint.specs.Closures.{Exactly}
use Rattle.cw_game.specs.Games.{Game}
use Rattle.cw_game.specs.Pairs.{all_states}
use Rattle.cw_product.specs.Moves.{IsPosition, IsState}
use Rattle.cw_product.specs.Product.{Held as HeldGame, game_of}
use Rattle.cw_solve.specs.Contexts.{context}
use Rattle.cw_solve.specs.Solved.{Held}
use Rattle.cw_solve.proofs.Tabling.{there}
use Rattle.cw_lazy_table.specs.declared.key.Key.{Key}
use Rattle.cw_lazy_table.specs.Kinds.{SpotKind}
use Rattle.cw_lazy_table.specs.Kinds as kind
use Rattle.cw_lazy_table.specs.declared.seam_key.SeamKey.{SeamKey}
use Rattle.cw_lazy_table.specs.Choices.{lost_in, set_in, IsReady, CanFollow}
use Rattle.cw_lazy_table.specs.Lazy.{Means, IsLiveRow, IsTryRow, IsLabelRow, IsOpenRow, IsCloseRow, IsIntoRow, IsBackRow, IsLazyTable}
use Rattle.cw_lazy_table.specs.Live.{IsLive, begins}
use Rattle.cw_lazy_table.specs.SeamKeys.{seam_key_cmp, seam_key_of, key_of, memory_of, IsSeamKey, IsReturn, return_cmp, return_of}
use Rattle.cw_lazy_table.specs.Rowing.{Memories, number, AreMemories, mem, live_row, try_row, at_row, open_row, into_row, back_row}
use Rattle.cw_lazy_table.specs.Tabled.{AreLive, AreReturns, AreAllMemories}
use Rattle.cw_lazy_table.proofs.Choosing.{safe_at}
use Rattle.cw_lazy_table.proofs.Counting.{no_more}
use Rattle.cw_lazy_table.proofs.Finding.{in_of, of_in}
use Rattle.cw_lazy_table.proofs.Listing.{seam_keys_exactly, memories_exactly, tries_exactly, labels_exactly, opened_exactly, closed_exactly, into_exactly, back_exactly, live_exactly}
use Rattle.cw_lazy_table.proofs.Returning.{alive, listed, returns_exactly}
use Rattle.cw_lazy_table.proofs.Rowing.{meant}
use Rattle.cw_certs.proofs.Orders.{mem_total}

pub in_order : (g : Game) (ms : Memories) → AreAllMemories g ms → AreMemories ms
in_order g ms are = record { order = are.are.0; few = are.few }

module _ (h : HeldGame) (keys : List Key) (live : AreLive h keys) where
  abbrev g : Game
  g = game_of h

  abbrev functions : ℕ
  functions = length h.graph.parts.items

  pub lives : (x : Key) → (Contains keys x → IsLive g x.pos x.state x.promise) × (IsLive g x.pos x.state x.promise → Contains keys x)
  lives x = (λ c. alive g functions live.begins live.low x ((live.are.1 x).0 c), λ l. (live.are.1 x).1 (listed g functions live.begins live.low x.pos x.state x.promise l))

  range : (p q e : ℕ) → IsLive g p q e → IsPosition g p × IsState g q
  range p q e l =
      let s = safe_at g functions live.begins p q e l in
      let th = there g functions live.begins.routed (context s.function e) s.needed in
      let below : p < length g.spots = omega (arith, s.of.1, th.ends) in
      (below, s.state)

  pub position : (x : Key) → Contains keys x → IsPosition g x.pos
  position x c = (range x.pos x.state x.promise ((lives x).0 c)).0

  -- the keys at positions of a kind
  module _ (k : SpotKind) (ys : List SeamKey) (are : Exactly seam_key_cmp (Contains (filter_map (seam_key_of g k) keys)) ys) where
    pub seam_keys_are : Exactly seam_key_cmp (IsSeamKey g k) ys
    seam_keys_are = seam_keys_exactly g functions live.begins k keys ys lives are

    pub seam_key_range : (x : SeamKey) → Contains ys x → IsPosition g x.pos × IsState g x.state
    seam_key_range x c = range x.pos x.state x.promise ((seam_keys_are.1 x).0 c).live

    pub seam_key_can : (s : Held) → IsReady h s → (x : SeamKey) → Contains ys x → CanFollow h s (key_of x)
    seam_key_can s ready x c = record { ready = ready; member = listed g functions live.begins live.low x.pos x.state x.promise ((seam_keys_are.1 x).0 c).live }

  -- the memories
  pub memories_are : (ms : Memories) → Exactly mem_cmp (Contains (map memory_of keys)) ms → AreAllMemories g ms
  memories_are ms are = record {
    are = memories_exactly g functions live.begins keys ms lives are;
    few =
        let few = no_more mem_cmp mem_total (λ (r : StateId × ℕ). r) (Contains (map memory_of keys)) (λ a b p q e. e) ms are.0 (λ a n. (are.1 a).0 (of_in ms a n)) (map memory_of keys)
        (λ a n. in_of (map memory_of keys) a ((are.1 a).0 (of_in ms a n))) in
        let long = same_length keys in
        let short = live.few in
        omega (arith, few, long, short);
  }
    where
      same_length : (xs : List Key) → length (map memory_of xs) ≡ length xs
      same_length xs = length-map xs memory_of

  -- and the lists by them
  module _ (ms : Memories) (all : AreAllMemories g ms) where
    pub live_are : (rows : List (PosId × MemId)) → rows ≡ map (live_row ms) keys → Exactly live_cmp (IsLiveRow g ms) rows
    live_are rows e = subst (Exactly live_cmp (IsLiveRow g ms)) (sym e) (live_exactly g functions live.begins ms all.are live.low keys (live.are.0, lives))

    pub tries_are : (ys : List SeamKey) → Exactly seam_key_cmp (Contains (filter_map (seam_key_of g kind.Asked) keys)) ys → (rows : List TryRow) → rows ≡ map (try_row g (lost_in g) ms) ys
        → Exactly try_cmp (IsTryRow g ms) rows
    tries_are ys are rows e = subst (Exactly try_cmp (IsTryRow g ms)) (sym e) (tries_exactly g functions live.begins ms all.are live.low ys (seam_keys_are kind.Asked ys are))

    pub labels_are : (ys : List SeamKey) → Exactly seam_key_cmp (Contains (filter_map (seam_key_of g kind.Label) keys)) ys → (rows : List AtRow) → rows ≡ map (at_row g ms) ys
        → Exactly at_cmp (IsLabelRow g ms) rows
    labels_are ys are rows e = subst (Exactly at_cmp (IsLabelRow g ms)) (sym e) (labels_exactly g functions live.begins ms all.are live.low ys (seam_keys_are kind.Label ys are))

    pub opens_are : (ys : List SeamKey) → Exactly seam_key_cmp (Contains (filter_map (seam_key_of g kind.Open) keys)) ys → (rows : List OpenRow) → rows ≡ map (open_row g ms) ys
        → Exactly open_cmp (IsOpenRow g ms) rows
    opens_are ys are rows e = subst (Exactly open_cmp (IsOpenRow g ms)) (sym e) (opened_exactly g functions live.begins ms all.are live.low ys (seam_keys_are kind.Open ys are))

    pub closes_are : (ys : List SeamKey) → Exactly seam_key_cmp (Contains (filter_map (seam_key_of g kind.Close) keys)) ys → (rows : List AtRow) → rows ≡ map (at_row g ms) ys
        → Exactly at_cmp (IsCloseRow g ms) rows
    closes_are ys are rows e = subst (Exactly at_cmp (IsCloseRow g ms)) (sym e) (closed_exactly g functions live.begins ms all.are live.low ys (seam_keys_are kind.Close ys are))

    pub calls_are : (ys : List SeamKey) → Exactly seam_key_cmp (Contains (filter_map (seam_key_of g kind.Call) keys)) ys → (rows : List IntoRow) → rows ≡ map (into_row (set_in g) ms) ys
        → Exactly into_cmp (IsIntoRow g ms) rows
    calls_are ys are rows e = subst (Exactly into_cmp (IsIntoRow g ms)) (sym e) (into_exactly g functions live.begins ms all.are live.low ys (seam_keys_are kind.Call ys are))

    -- the table
    pub start_means : (q e : ℕ) → q ≡ g.states.start → e ≡ all_states g → Means ms (mem ms q e).0 g.states.start (all_states g)
    start_means q e a b = subst (λ (n : ℕ). Means ms n g.states.start (all_states g)) (ap₂ (number ms) (sym a) (sym b))
        (meant g functions live.begins live.low ms all.are (g.entry g.main) g.states.start (all_states g) begins)

-- the table as the code has it
pub lazy_of : (g : Game) (states : ℕ) (start : MemId) (ms found : Memories) (live : List (PosId × MemId)) (tries : List TryRow) (ats : List AtRow) (opened : List OpenRow)
    (closed : List AtRow) (into : List IntoRow) (back : List BackRow)
    → ms ≡ found → states ≡ g.states.count → Means ms start.0 g.states.start (all_states g) → AreAllMemories g ms → Exactly live_cmp (IsLiveRow g ms) live → Exactly try_cmp (IsTryRow g ms) tries
    → Exactly at_cmp (IsLabelRow g ms) ats → Exactly open_cmp (IsOpenRow g ms) opened → Exactly at_cmp (IsCloseRow g ms) closed → Exactly into_cmp (IsIntoRow g ms) into
    → Exactly back_cmp (IsBackRow g ms) back
    → IsLazyTable g (table_with states start found live tries ats opened closed into back)
lazy_of g states start ms found live tries ats opened closed into back same n s all l t a o c i b =
    subst (λ (m : Memories). IsLazyTable g (table_with states start m live tries ats opened closed into back)) same
    (record { states = n; start = s; mems = all.are; live = l; tries = t; ats = a; opened = o; closed = c; into = i; back = b })

pub lazy_ascends : (g : Game) (t : Table) → IsLazyTable g t → Ascends t
lazy_ascends g t lazy = record {
  mems = lazy.mems.0;
  live = lazy.live.0;
  tries = lazy.tries.0;
  ats = lazy.ats.0;
  opened = lazy.opened.0;
  closed = lazy.closed.0;
  into = lazy.into.0;
  back = lazy.back.0;
}

-- the returns
module _ (h : HeldGame) (pairs : List (Key × Key)) (returns : AreReturns h pairs) where
  pub pair_position : (ab : Key × Key) → Contains pairs ab → IsPosition (game_of h) ab.0.pos
  pair_position ab c =
      let p = (returns.are.1 ab).0 c in
      let s = safe_at (game_of h) (length h.graph.parts.items) returns.begins ab.0.pos ab.0.state ab.0.promise
      (alive (game_of h) (length h.graph.parts.items) returns.begins returns.low ab.0 p.waiting) in
      let th = there (game_of h) (length h.graph.parts.items) returns.begins.routed (context s.function ab.0.promise) s.needed in
      omega (arith, s.of.1, th.ends)

  module _ (ys : List (SeamKey × Key)) (are : Exactly return_cmp (Contains (filter_map (return_of (game_of h)) pairs)) ys) where
    returns_are : Exactly return_cmp (IsReturn (game_of h)) ys
    returns_are = returns_exactly (game_of h) (length h.graph.parts.items) returns.begins returns.low pairs ys returns.are are

    pub return_promise : (x : SeamKey × Key) → Contains ys x → x.1.promise ≡ set_in (game_of h) x.0.pos x.0.state x.0.promise
    return_promise x c = ((returns_are.1 x).0 c).promise

    pub return_states : (x : SeamKey × Key) → Contains ys x → IsState (game_of h) x.0.state × IsState (game_of h) x.1.state
    return_states x c =
        let r = (returns_are.1 x).0 c in (
          (safe_at (game_of h) (length h.graph.parts.items) returns.begins x.0.pos x.0.state x.0.promise r.seam_key.live).state,
          (safe_at (game_of h) (length h.graph.parts.items) returns.begins x.1.pos x.1.state x.1.promise r.ended).state,
        )

    pub backs_are : (ms : Memories) → AreAllMemories (game_of h) ms → (rows : List BackRow) → rows ≡ map (back_row (game_of h) ms) ys → Exactly back_cmp (IsBackRow (game_of h) ms) rows
    backs_are ms all rows e =
        subst (Exactly back_cmp (IsBackRow (game_of h) ms)) (sym e)
        (back_exactly (game_of h) (length h.graph.parts.items) returns.begins ms all.are returns.low ys returns_are)
