-- Lists by the numbers of promises are the lists by the promises.
use Rattle.std.proofs.Common.{◌≡◌, inl, inr, ℕ, ◌+◌, ◌<◌, List, [], ◌∷◌, cond, Option, Some, None, map, filter_map, option_map, length, refl, sym, ap, ap₂, ◌∙◌, subst}
use Rattle.std.specs.Prelude.{slice_index}
use Rattle.std.specs.List.{Contains}
use Rattle.std.specs.List.Sorted.{IsStrictlySortedBy}
use Rattle.std.specs.Ordering.{nat_cmp, ordering_then, is_eq}
use Rattle.cw_core.specs.declared.ids.MemId.{MemId}
use Rattle.cw_core.specs.declared.ids.StateId.{StateId}
use Rattle.cw_certs.specs.declared.moves.Move.{Move}
use Rattle.cw_certs.specs.declared.moves.Move.TheVariants.{Grant, Refuse, On, Opened, Failed}
use Rattle.cw_certs.specs.declared.rows.TryRow.{TryRow}
use Rattle.cw_certs.specs.declared.rows.AtRow.{AtRow}
use Rattle.cw_certs.specs.declared.rows.OpenRow.{OpenRow}
use Rattle.cw_certs.specs.declared.rows.IntoRow.{IntoRow}
use Rattle.cw_certs.specs.declared.rows.BackRow.{BackRow}
use Rattle.cw_certs.specs.Ascending.{mem_cmp}
use Rattle.cw_fixpoint.specs.Closures.{Exactly}
use Rattle.cw_fixpoint.specs.Numbers.{number_in}
use Rattle.cw_game.specs.Games.{Game, resumed, returned}
use Rattle.cw_game.specs.Pairs.{kept_at}
use Rattle.cw_lemmas.proofs.Lists.{contains_map, map_contains}
use Rattle.cw_lemmas.proofs.Options.{option_map_some as mapped}
use Rattle.cw_product.specs.Moves.{next_at, pos_id}
use Rattle.cw_points.specs.Graphs.{seam_id}
use Rattle.cw_lazy_table.specs.declared.key.Key.{Key}
use Rattle.cw_lazy_table.specs.Kinds.{SpotKind}
use Rattle.cw_lazy_table.specs.Kinds as kind
use Rattle.cw_lazy_table.specs.declared.seam_key.SeamKey.{SeamKey}
use Rattle.cw_lazy_table.specs.Choices.{lost_in, set_in}
use Rattle.cw_lazy_table.specs.Lazy.{state_id}
use Rattle.cw_lazy_table.specs.Numbered.{whole, whole_seam_key, whole_memory, whole_pair, whole_return, lost_by, set_at}
use Rattle.cw_lazy_table.specs.SeamKeys.{seam_key_cmp, part_at, seam_key, seam_key_of, memory_of, return_cmp, return_of}
use Rattle.cw_lazy_table.specs.Rowing.{Memories, number, mem, mem_id, mem_after, state_or, moved, going_on, refused_by, live_row, try_row, at_row, open_row, is_split, into_row, back_row}
use Rattle.cw_lazy_table.proofs.Finding.{In, in_of, of_in}
use Rattle.cw_lazy_table.proofs.Listing.{rows_exactly, in_map, of_map, filter_to, filter_of}
use Rattle.cw_lazy_table.proofs.Numbering.{key_order}
use Rattle.cw_fixpoint.proofs.Numbers.{stands, below, same_order}

same_maps : {A B C : Type 0} (f : A → B) (w : A → C) (h : C → B) (xs : List A) → ((x : A) → In xs x → f x ≡ h (w x)) → map f xs ≡ map h (map w xs)
same_maps f w h [] e = refl
same_maps f w h (x ∷ xs) e = ap₂ (λ y ys. y ∷ ys) (e x (inl refl)) (same_maps f w h xs (λ z n. e z (inr n)))

module _ (g : Game) (es : List ℕ) (order : IsStrictlySortedBy nat_cmp es) where
  seam_key_order : (x y : SeamKey) → x.promise < length es → y.promise < length es → seam_key_cmp (whole_seam_key es x) (whole_seam_key es y) ≡ seam_key_cmp x y
  seam_key_order x y lx ly =
      ap (λ o. ordering_then (nat_cmp x.seam y.seam) (ordering_then (nat_cmp x.part y.part) (ordering_then (nat_cmp x.state y.state) (ordering_then o (nat_cmp x.pos y.pos)))))
      (same_order es order x.promise y.promise lx ly)

  memory_order : (a b : StateId × ℕ) → a.1 < length es → b.1 < length es → mem_cmp (whole_memory es a) (whole_memory es b) ≡ mem_cmp a b
  memory_order a b la lb = ap (λ o. ordering_then (nat_cmp a.0.0 b.0.0) o) (same_order es order a.1 b.1 la lb)

  -- seam keys
  module _ (keys : List Key) (within : (k : Key) → Contains keys k → k.promise < length es) (kd : SpotKind) where
    abbrev Here : SeamKey → Type 0
    Here x = Contains (filter_map (seam_key_of g kd) keys) x

    abbrev There : SeamKey → Type 0
    There x = Contains (filter_map (seam_key_of g kd) (map (whole es) keys)) x

    part_of_spot : (x : SeamKey) → Here x → (k : Key) × (at : ℕ × ℕ) × Contains keys k × (part_at g kd k.pos ≡ Some at) × (seam_key k at ≡ x)
    part_of_spot x c =
        let z = filter_of (seam_key_of g kd) keys x (in_of (filter_map (seam_key_of g kd) keys) x c) in
        let m = mapped (seam_key z.0) (part_at g kd z.0.pos) x z.2 in
        (z.0, m.0, of_in keys z.0 z.1, m.1, m.2)

    pub seam_key_within : (x : SeamKey) → Contains (filter_map (seam_key_of g kd) keys) x → x.promise < length es
    seam_key_within x c = let z = part_of_spot x c in subst (λ (y : SeamKey). y.promise < length es) z.4 (within z.0 z.2)

    to_whole : (x : SeamKey) → Here x → There (whole_seam_key es x)
    to_whole x c =
        let z = part_of_spot x c in
        of_in (filter_map (seam_key_of g kd) (map (whole es) keys)) (whole_seam_key es x)
        (filter_to (seam_key_of g kd) (map (whole es) keys) (whole es z.0) (whole_seam_key es x) (in_map (whole es) keys z.0 (in_of keys z.0 z.2))
        (ap (option_map (seam_key (whole es z.0))) z.3 ∙ ap (λ (y : SeamKey). Some (whole_seam_key es y)) z.4))

    of_whole : (y : SeamKey) → There y → (x : SeamKey) × Here x × (y ≡ whole_seam_key es x)
    of_whole y c =
        let z = filter_of (seam_key_of g kd) (map (whole es) keys) y (in_of (filter_map (seam_key_of g kd) (map (whole es) keys)) y c) in
        let w = of_map (whole es) keys z.0 z.1 in
        let m = mapped (seam_key z.0) (part_at g kd z.0.pos) y z.2 in
        let at : part_at g kd w.0.pos ≡ Some m.0 = ap (λ (q : Key). part_at g kd q.pos) w.2 ∙ m.1 in (
          seam_key w.0 m.0,
          of_in (filter_map (seam_key_of g kd) keys) (seam_key w.0 m.0) (filter_to (seam_key_of g kd) keys w.0 (seam_key w.0 m.0) w.1 (ap (option_map (seam_key w.0)) at)),
          sym m.2 ∙ ap (λ (q : Key). seam_key q m.0) (sym w.2),
        )

    pub seam_key_whole : (ys : List SeamKey) → Exactly seam_key_cmp (Contains (filter_map (seam_key_of g kd) keys)) ys
        → Exactly seam_key_cmp (Contains (filter_map (seam_key_of g kd) (map (whole es) keys))) (map (whole_seam_key es) ys)
    seam_key_whole ys e = rows_exactly seam_key_cmp seam_key_cmp Here There (whole_seam_key es) ys e (λ x y a b l. seam_key_order x y (seam_key_within x a) (seam_key_within y b) ∙ l) to_whole of_whole

  -- memories
  module _ (keys : List Key) (within : (k : Key) → Contains keys k → k.promise < length es) where
    pub memory_within : (m : StateId × ℕ) → Contains (map memory_of keys) m → m.1 < length es
    memory_within m c = let z = map_contains memory_of keys m c in subst (λ (x : StateId × ℕ). x.1 < length es) z.2 (within z.0 z.1)

    pub memories_whole : (ms : Memories) → Exactly mem_cmp (Contains (map memory_of keys)) ms → Exactly mem_cmp (Contains (map memory_of (map (whole es) keys))) (map (whole_memory es) ms)
    memories_whole ms e =
        rows_exactly mem_cmp mem_cmp (Contains (map memory_of keys)) (Contains (map memory_of (map (whole es) keys))) (whole_memory es) ms e
        (λ x y a b l. memory_order x y (memory_within x a) (memory_within y b) ∙ l)
        (λ m c.
        let z = map_contains memory_of keys m c in
        subst (Contains (map memory_of (map (whole es) keys))) (ap (whole_memory es) z.2)
        (contains_map memory_of (map (whole es) keys) (whole es z.0) (contains_map (whole es) keys z.0 z.1)))
        (λ y c.
        let z = map_contains memory_of (map (whole es) keys) y c in
        let w = map_contains (whole es) keys z.0 z.1 in
        (memory_of w.0, contains_map memory_of keys w.0 w.1, sym z.2 ∙ ap memory_of (sym w.2)))

  -- returns
  module _ (pairs : List (Key × Key)) (within : (ab : Key × Key) → Contains pairs ab → (ab.0.promise < length es) × (ab.1.promise < length es)) where
    abbrev Came : SeamKey × Key → Type 0
    Came x = Contains (filter_map (return_of g) pairs) x

    abbrev Comes : SeamKey × Key → Type 0
    Comes x = Contains (filter_map (return_of g) (map (whole_pair es) pairs)) x

    return_at : (ab : Key × Key) (x : SeamKey × Key) → return_of g ab ≡ Some x → (at : ℕ × ℕ) × (part_at g kind.Call ab.0.pos ≡ Some at) × ((seam_key ab.0 at, ab.1) ≡ x)
    return_at ab x e =
        let m = mapped (λ (y : SeamKey). (y, ab.1)) (seam_key_of g kind.Call ab.0) x e in
        let p = mapped (seam_key ab.0) (part_at g kind.Call ab.0.pos) m.0 m.1 in
        (p.0, p.1, ap (λ (y : SeamKey). (y, ab.1)) p.2 ∙ m.2)

    come_of : (x : SeamKey × Key) → Came x → (ab : Key × Key) × (at : ℕ × ℕ) × Contains pairs ab × (part_at g kind.Call ab.0.pos ≡ Some at) × ((seam_key ab.0 at, ab.1) ≡ x)
    come_of x c =
        let z = filter_of (return_of g) pairs x (in_of (filter_map (return_of g) pairs) x c) in
        let m = return_at z.0 x z.2 in
        (z.0, m.0, of_in pairs z.0 z.1, m.1, m.2)

    pub return_within : (x : SeamKey × Key) → Contains (filter_map (return_of g) pairs) x → (x.0.promise < length es) × (x.1.promise < length es)
    return_within x c = let z = come_of x c in subst (λ (y : SeamKey × Key). (y.0.promise < length es) × (y.1.promise < length es)) z.4 (within z.0 z.2)

    comes : (x : SeamKey × Key) → Came x → Comes (whole_return es x)
    comes x c =
        let z = come_of x c in
        of_in (filter_map (return_of g) (map (whole_pair es) pairs)) (whole_return es x)
        (filter_to (return_of g) (map (whole_pair es) pairs) (whole_pair es z.0) (whole_return es x) (in_map (whole_pair es) pairs z.0 (in_of pairs z.0 z.2))
        (ap (λ o. option_map (λ (y : SeamKey). (y, whole es z.0.1)) (option_map (seam_key (whole es z.0.0)) o)) z.3 ∙ ap (λ (y : SeamKey × Key). Some (whole_return es y)) z.4))

    came : (y : SeamKey × Key) → Comes y → (x : SeamKey × Key) × Came x × (y ≡ whole_return es x)
    came y c =
        let z = filter_of (return_of g) (map (whole_pair es) pairs) y (in_of (filter_map (return_of g) (map (whole_pair es) pairs)) y c) in
        let w = of_map (whole_pair es) pairs z.0 z.1 in
        let m = return_at z.0 y z.2 in
        let at : part_at g kind.Call w.0.0.pos ≡ Some m.0 = ap (λ (q : Key × Key). part_at g kind.Call q.0.pos) w.2 ∙ m.1 in (
          (seam_key w.0.0 m.0, w.0.1),
          of_in (filter_map (return_of g) pairs) (seam_key w.0.0 m.0, w.0.1)
              (filter_to (return_of g) pairs w.0 (seam_key w.0.0 m.0, w.0.1) w.1 (ap (λ o. option_map (λ (y : SeamKey). (y, w.0.1)) (option_map (seam_key w.0.0) o)) at)),
          sym m.2 ∙ ap (λ (q : Key × Key). (seam_key q.0 m.0, q.1)) (sym w.2),
        )

    return_order : (x y : SeamKey × Key) → (x.0.promise < length es) × (x.1.promise < length es) → (y.0.promise < length es) × (y.1.promise < length es)
        → return_cmp (whole_return es x) (whole_return es y) ≡ return_cmp x y
    return_order x y lx ly = ap₂ ordering_then (seam_key_order x.0 y.0 lx.0 ly.0) (key_order es order x.1 y.1 lx.1 ly.1)

    pub returns_whole : (ys : List (SeamKey × Key)) → Exactly return_cmp (Contains (filter_map (return_of g) pairs)) ys
        → Exactly return_cmp (Contains (filter_map (return_of g) (map (whole_pair es) pairs))) (map (whole_return es) ys)
    returns_whole ys e = rows_exactly return_cmp return_cmp Came Comes (whole_return es) ys e (λ x y a b l. return_order x y (return_within x a) (return_within y b) ∙ l) comes came

  -- the number of a memory
  pub number_whole : (ms : Memories) (q n : ℕ) → n < length es → ((m : StateId × ℕ) → Contains ms m → m.1 < length es)
      → number ms q n ≡ number (map (whole_memory es) ms) q (slice_index es n)
  number_whole [] q n l w = refl
  number_whole (m ∷ ms) q n l w =
      ap₂ (λ b (k : ℕ). cond b 0 (k + 1)) (ap is_eq (sym (memory_order m (state_id q, n) (w m (of_in (m ∷ ms) m (inl refl))) l)))
      (number_whole ms q n l (λ x c. w x (of_in (m ∷ ms) x (inr (in_of ms x c)))))

  -- rows
  module _ (ms : Memories) (inside : (m : StateId × ℕ) → Contains ms m → m.1 < length es) where
    abbrev ws : Memories
    ws = map (whole_memory es) ms

    mem_whole : (q n : ℕ) → n < length es → mem ms q n ≡ mem ws q (slice_index es n)
    mem_whole q n l = ap mem_id (number_whole ms q n l inside)

    abbrev at_with : ℕ → MemId → MemId → AtRow
    at_with seam m a = record { seam = seam_id seam; mem = m; after = a }

    abbrev open_with : ℕ → MemId → MemId → MemId → OpenRow
    open_with seam m a b = record { seam = seam_id seam; mem = m; opened = a; failed = b }

    abbrev try_with : (seam part : ℕ) → MemId → Option MemId → Option MemId → TryRow
    try_with seam part m a b = record { seam = seam_id seam; stage = part; mem = m; granted = a; refused = b }

    abbrev into_with : SeamKey → MemId → MemId → IntoRow
    into_with x m a = record { seam = seam_id x.seam; split = is_split x; mem = m; callee = a }

    abbrev back_with : SeamKey → (exit : ℕ) → MemId → MemId → BackRow
    back_with x exit m a = record { seam = seam_id x.seam; split = is_split x; mem = m; exit = state_id exit; after = a }

    pub live_rows_whole : (keys : List Key) → ((k : Key) → Contains keys k → k.promise < length es) → map (live_row ms) keys ≡ map (live_row ws) (map (whole es) keys)
    live_rows_whole keys within =
        same_maps (live_row ms) (whole es) (live_row ws) keys (λ k n. ap (λ (m : MemId). (pos_id k.pos, m)) (mem_whole k.state k.promise (within k (of_in keys k n))))

    module _ (x : SeamKey) (l : x.promise < length es) where
      abbrev e : ℕ
      e = slice_index es x.promise

      pub moved_whole : (by : Move) → moved g ms x by ≡ moved g ws (whole_seam_key es x) by
      moved_whole by = mem_whole (state_or x.state (next_at g x.pos x.state by)) x.promise l

      after_whole : (o : Option (ℕ × ℕ)) → mem_after ms x.promise o ≡ mem_after ws e o
      after_whole None = refl
      after_whole (Some r) = ap (λ (m : MemId). Some m) (mem_whole r.1 x.promise l)

      going_whole : (o : Option (ℕ × ℕ)) → going_on (lost_by g es) ms x.promise o ≡ going_on (lost_in g) ws e o
      going_whole None = refl
      going_whole (Some pair) = ap (λ (m : MemId). cond (lost_in g pair.0 pair.1 e) None (Some m)) (mem_whole pair.1 x.promise l)

      refused_whole : (o on : Option (ℕ × ℕ)) → refused_by (lost_by g es) ms x.promise o on ≡ refused_by (lost_in g) ws e o on
      refused_whole None on = going_whole on
      refused_whole (Some r) on = ap (λ (m : MemId). Some m) (mem_whole r.1 x.promise l)

      at_whole : at_row g ms x ≡ at_row g ws (whole_seam_key es x)
      at_whole = ap₂ (at_with x.seam) (mem_whole x.state x.promise l) (moved_whole On)

      open_whole : open_row g ms x ≡ open_row g ws (whole_seam_key es x)
      open_whole =
          ap₂ (λ m a. open_with x.seam m a (moved g ms x Failed)) (mem_whole x.state x.promise l) (moved_whole Opened)
          ∙ ap (open_with x.seam (mem ws x.state e) (moved g ws (whole_seam_key es x) Opened)) (moved_whole Failed)

      try_whole : try_row g (lost_by g es) ms x ≡ try_row g (lost_in g) ws (whole_seam_key es x)
      try_whole =
          ap₂ (λ m a. try_with x.seam x.part m a (refused_by (lost_by g es) ms x.promise (next_at g x.pos x.state Refuse) (resumed g x.pos x.state)))
          (mem_whole x.state x.promise l) (after_whole (next_at g x.pos x.state Grant))
          ∙ ap (try_with x.seam x.part (mem ws x.state e) (mem_after ws e (next_at g x.pos x.state Grant))) (refused_whole (next_at g x.pos x.state Refuse) (resumed g x.pos x.state))

      into_whole : Contains es (set_in g x.pos x.state e) → into_row (set_at g es) ms x ≡ into_row (set_in g) ws (whole_seam_key es x)
      into_whole c =
          let set = set_in g x.pos x.state e in
          ap₂ (into_with x) (mem_whole x.state x.promise l) (mem_whole x.state (number_in nat_cmp es set) (below es order set c) ∙ ap (mem ws x.state) (stands es order set c))

      back_whole : (b : Key) → back_row g ms (x, b) ≡ back_row g ws (whole_return es (x, b))
      back_whole b = ap₂ (back_with x b.state) (mem_whole x.state x.promise l) (mem_whole (returned g.states (kept_at (is_split x) x.state) b.state) x.promise l)

    module _ (ys : List SeamKey) (within : (x : SeamKey) → Contains ys x → x.promise < length es) where
      pub at_rows_whole : map (at_row g ms) ys ≡ map (at_row g ws) (map (whole_seam_key es) ys)
      at_rows_whole = same_maps (at_row g ms) (whole_seam_key es) (at_row g ws) ys (λ x n. at_whole x (within x (of_in ys x n)))

      pub open_rows_whole : map (open_row g ms) ys ≡ map (open_row g ws) (map (whole_seam_key es) ys)
      open_rows_whole = same_maps (open_row g ms) (whole_seam_key es) (open_row g ws) ys (λ x n. open_whole x (within x (of_in ys x n)))

      pub try_rows_whole : map (try_row g (lost_by g es) ms) ys ≡ map (try_row g (lost_in g) ws) (map (whole_seam_key es) ys)
      try_rows_whole = same_maps (try_row g (lost_by g es) ms) (whole_seam_key es) (try_row g (lost_in g) ws) ys (λ x n. try_whole x (within x (of_in ys x n)))

      pub into_rows_whole : ((x : SeamKey) → Contains ys x → Contains es (set_in g x.pos x.state (slice_index es x.promise)))
          → map (into_row (set_at g es) ms) ys ≡ map (into_row (set_in g) ws) (map (whole_seam_key es) ys)
      into_rows_whole there =
          same_maps (into_row (set_at g es) ms) (whole_seam_key es) (into_row (set_in g) ws) ys (λ x n. into_whole x (within x (of_in ys x n)) (there x (of_in ys x n)))

    pub back_rows_whole : (ys : List (SeamKey × Key)) → ((x : SeamKey × Key) → Contains ys x → x.0.promise < length es)
        → map (back_row g ms) ys ≡ map (back_row g ws) (map (whole_return es) ys)
    back_rows_whole ys within = same_maps (back_row g ms) (whole_return es) (back_row g ws) ys (λ x n. back_whole x.0 (within x (of_in ys x n)) x.1)
