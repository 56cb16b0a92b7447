-- The row of a key is a row of the table, and each row of the table is that of a key.
use Rattle.std.proofs.Common.{◌≡◌, ℕ, [], Bool, true, false, cond, ◌||◌, Option, Some, None, option_map, nat_eq, refl, sym, ap, ◌∙◌, subst}
use Rattle.std.specs.Prelude.{slice_get}
use Rattle.std.proofs.lemmas.Option.{same_Some}
use Rattle.cw_core.specs.declared.ids.SeamId.{SeamId}
use Rattle.cw_core.specs.declared.ids.StateId.{StateId}
use Rattle.cw_core.specs.declared.ids.MemId.{MemId}
use Rattle.cw_core.specs.declared.ids.PosId.{PosId}
use Rattle.cw_rights.specs.declared.capabilities.Primitive.{Primitive}
use Rattle.cw_certs.specs.declared.moves.Move.{Move}
use Rattle.cw_certs.specs.declared.moves.Move.TheVariants.{Grant, Refuse, On, Opened, Failed}
use Rattle.cw_certs.specs.declared.rows.TryRow.{TryRow}
use Rattle.cw_certs.specs.declared.rows.AtRow.{AtRow}
use Rattle.cw_certs.specs.declared.rows.OpenRow.{OpenRow}
use Rattle.cw_certs.specs.declared.rows.IntoRow.{IntoRow}
use Rattle.cw_certs.specs.declared.rows.BackRow.{BackRow}
use Rattle.cw_certs.specs.Ascending.{mem_cmp}
use Rattle.cw_fixpoint.specs.Closures.{Exactly}
use Rattle.cw_game.specs.declared.spots.Spot.{Spot}
use Rattle.cw_game.specs.declared.spots.Spot.TheVariants.{Asked, Label, Open, Close}
use Rattle.cw_game.specs.Games.{Game, Config, at_pair, resumed, returned, leads_in, bad_in, weavers_in}
use Rattle.cw_game.specs.Pairs.{Called, is_call_in, is_exit_in, kept_at}
use Rattle.cw_product.specs.Moves.{pair_of, next_in, next_at}
use Rattle.cw_solve.specs.Low.{HeightsAreLow}
use Rattle.cw_lazy_table.specs.declared.key.Key.{Key}
use Rattle.cw_lazy_table.specs.Kinds as kind
use Rattle.cw_lazy_table.specs.declared.seam_key.SeamKey.{SeamKey}
use Rattle.cw_lazy_table.specs.Choices.{lost_in, set_in}
use Rattle.cw_lazy_table.specs.Closing.{key}
use Rattle.cw_lazy_table.specs.Laws.{CanBegin}
use Rattle.cw_lazy_table.specs.Lazy.{state_id, Means, IsAfter, GoesOn, IsRefused, IsMemory, IsLiveRow, IsTryRow, IsLabelRow, IsOpenRow, IsCloseRow, IsCalled, IsIntoRow, IsBackRow}
use Rattle.cw_lazy_table.specs.Live.{IsLive, moves, goes_on, calls, returns}
use Rattle.cw_lazy_table.specs.SeamKeys.{part_there, IsSeamKey, IsReturn}
use Rattle.cw_lazy_table.specs.Rowing.{Memories, number, mem_id, mem, live_row, mem_after, state_or, moved, going_on, refused_by, try_row, at_row, open_row, is_split, into_row, back_row}
use Rattle.cw_lazy_table.proofs.Bridging.{full_is}
use Rattle.cw_lazy_table.proofs.Choosing.{safe_at, set_full, right}
use Rattle.cw_lazy_table.proofs.Keeping.{good}
use Rattle.cw_lazy_table.proofs.Numbers.{mem_at, number_is}
use Rattle.cw_lazy_table.proofs.Placing.{asked_there, label_there, open_there, close_there, call_there, there_call, split_is}

left_if : (b c x : Bool) → b ≡ false → c ≡ false → x ≡ false → (b || (c || x)) ≡ false
left_if true c x e f h = cc
left_if false true x e f h = cc
left_if false false x e f h = h

same_try : (j : SeamId) (i : ℕ) (m n : MemId) (a b c d : Option MemId) → m ≡ n → a ≡ b → c ≡ d
    → ◌≡◌ {A = TryRow} (record { seam = j; stage = i; mem = m; granted = a; refused = c }) (record { seam = j; stage = i; mem = n; granted = b; refused = d })
same_try j i m n a b c d e f h = cc

same_at : (j : SeamId) (m n a b : MemId) → m ≡ n → a ≡ b → ◌≡◌ {A = AtRow} (record { seam = j; mem = m; after = a }) (record { seam = j; mem = n; after = b })
same_at j m n a b e f = cc

same_open : (j : SeamId) (m n a b c d : MemId) → m ≡ n → a ≡ b → c ≡ d
    → ◌≡◌ {A = OpenRow} (record { seam = j; mem = m; opened = a; failed = c }) (record { seam = j; mem = n; opened = b; failed = d })
same_open j m n a b c d e f h = cc

same_into : (j : SeamId) (s t : Bool) (m n a b : MemId) → s ≡ t → m ≡ n → a ≡ b
    → ◌≡◌ {A = IntoRow} (record { seam = j; split = s; mem = m; callee = a }) (record { seam = j; split = t; mem = n; callee = b })
same_into j s t m n a b e f h = cc

same_back : (j : SeamId) (s t : Bool) (m n : MemId) (x : StateId) (a b : MemId) → s ≡ t → m ≡ n → a ≡ b
    → ◌≡◌ {A = BackRow} (record { seam = j; split = s; mem = m; exit = x; after = a }) (record { seam = j; split = t; mem = n; exit = x; after = b })
same_back j s t m n x a b e f h = cc

module _ (g : Game) (functions : ℕ) (can : CanBegin g functions) (low : HeightsAreLow g) (ms : Memories) (are : Exactly mem_cmp (IsMemory g) ms) where
  pub meant : (p q e : ℕ) → IsLive g p q e → Means ms (number ms q e) q e
  meant p q e live = mem_at ms q e ((are.1 (state_id q, e)).1 (record { pos = p; live = live }))

  pub mem_is : (m : MemId) (q e : ℕ) → Means ms m.0 q e → m ≡ mem ms q e
  mem_is m q e h = ap mem_id (number_is ms m.0 q e are.0 h)

  next_is : (p q e : ℕ) (by : Move) (o : Option Spot) → IsLive g p q e → slice_get g.spots p ≡ o → is_call_in o ≡ false → is_exit_in o ≡ false
      → next_at g p q by ≡ option_map pair_of (leads_in g p q [] o by)
  next_is p q e by o live es c x =
      let fine : bad_in g q o ≡ false = subst (λ s. bad_in g q s ≡ false) es (good g functions can.routed can.staged p q e (safe_at g functions can p q e live).kept) in
      ap (λ s. next_in g p q s by) es ∙ ap (λ b. cond b None (option_map pair_of (leads_in g p q [] o by))) (left_if (bad_in g q o) (is_call_in o) (is_exit_in o) fine c x)

  moved_live : (p q e : ℕ) (by : Move) (o : Option Spot) (c : Config) → IsLive g p q e → slice_get g.spots p ≡ o → weavers_in o ≡ false → is_call_in o ≡ false
      → leads_in g p q [] o by ≡ Some c → IsLive g c.pos c.state e
  moved_live p q e by o c live es w k l = moves p q e by c live (ap weavers_in es ∙ w) (ap is_call_in es ∙ k) (ap (λ s. leads_in g p q [] s by) es ∙ l)

  -- after a move
  after_to : (e : ℕ) (o : Option Config) → ((c : Config) → o ≡ Some c → IsLive g c.pos c.state e) → IsAfter ms e o (mem_after ms e (option_map pair_of o))
  after_to e None h = refl
  after_to e (Some c) h = meant c.pos c.state e (h c refl)

  after_from : (e : ℕ) (o : Option Config) (m : Option MemId) → IsAfter ms e o m → m ≡ mem_after ms e (option_map pair_of o)
  after_from e None m h = h
  after_from e (Some c) None h = absurd h
  after_from e (Some c) (Some m) h = ap (λ (x : MemId). Some x) (mem_is m c.state e h)

  -- after a refusal
  going_to : (p q e : ℕ) (o : Option (ℕ × ℕ)) → IsLive g p q e → resumed g p q ≡ o → GoesOn g ms e o (going_on (lost_in g) ms e o)
  going_to p q e None live es = refl
  going_to p q e (Some pair) live es = by (lost_in g pair.0 pair.1 e) refl
    where
      by : (l : Bool) → lost_in g pair.0 pair.1 e ≡ l → GoesOn g ms e (Some pair) (cond l None (Some (mem ms pair.1 e)))
      by true t = (right g functions can low).on_lost p q e pair live es t
      by false t = let k = (right g functions can low).on_kept p q e pair live es t in (k, meant pair.0 pair.1 e (goes_on p q e pair live es k))

  going_from : (p q e : ℕ) (o : Option (ℕ × ℕ)) (m : Option MemId) → IsLive g p q e → resumed g p q ≡ o → GoesOn g ms e o m → m ≡ going_on (lost_in g) ms e o
  going_from p q e None m live es h = h
  going_from p q e (Some pair) None live es h = by (lost_in g pair.0 pair.1 e) refl
    where
      by : (l : Bool) → lost_in g pair.0 pair.1 e ≡ l → ◌≡◌ {A = Option MemId} None (cond l None (Some (mem ms pair.1 e)))
      by true t = refl
      by false t = absurd ((right g functions can low).on_kept p q e pair live es t h)
  going_from p q e (Some pair) (Some m) live es h = by (lost_in g pair.0 pair.1 e) refl
    where
      by : (l : Bool) → lost_in g pair.0 pair.1 e ≡ l → Some m ≡ cond l None (Some (mem ms pair.1 e))
      by true t = absurd (h.0 ((right g functions can low).on_lost p q e pair live es t))
      by false t = ap (λ (x : MemId). Some x) (mem_is m pair.1 e h.1)

  refused_to : (p q e : ℕ) (o : Option Config) → IsLive g p q e → ((c : Config) → o ≡ Some c → IsLive g c.pos c.state e)
      → IsRefused g ms p q e o (refused_by (lost_in g) ms e (option_map pair_of o) (resumed g p q))
  refused_to p q e None live h = going_to p q e (resumed g p q) live refl
  refused_to p q e (Some c) live h = meant c.pos c.state e (h c refl)

  refused_from : (p q e : ℕ) (o : Option Config) (m : Option MemId) → IsLive g p q e → IsRefused g ms p q e o m → m ≡ refused_by (lost_in g) ms e (option_map pair_of o) (resumed g p q)
  refused_from p q e None m live h = going_from p q e (resumed g p q) m live refl h
  refused_from p q e (Some c) m live h = after_from e (Some c) m h

  -- tries
  abbrev asked : SeamKey → Primitive → Option Spot
  asked x a = Some (Asked x.seam x.part a)

  asked_next : (x : SeamKey) (a : Primitive) (by : Move) → IsLive g x.pos x.state x.promise → slice_get g.spots x.pos ≡ asked x a
      → next_at g x.pos x.state by ≡ option_map pair_of (leads_in g x.pos x.state [] (asked x a) by)
  asked_next x a by live es = next_is x.pos x.state x.promise by (asked x a) live es refl refl

  pub try_to : (x : SeamKey) → IsSeamKey g kind.Asked x → IsTryRow g ms (try_row g (lost_in g) ms x)
  try_to x is =
      let s = asked_there (slice_get g.spots x.pos) x.seam x.part is.at in
      record {
        pos = x.pos;
        state = x.state;
        promise = x.promise;
        prim = s.0;
        live = is.live;
        asked = s.1;
        meant = meant x.pos x.state x.promise is.live;
        granted = subst (λ n. IsAfter ms x.promise (leads_in g x.pos x.state [] (asked x s.0) Grant) (mem_after ms x.promise n)) (sym (asked_next x s.0 Grant is.live s.1))
            (after_to x.promise (leads_in g x.pos x.state [] (asked x s.0) Grant) (λ c l. moved_live x.pos x.state x.promise Grant (asked x s.0) c is.live s.1 refl refl l));
        refused = subst (λ n. IsRefused g ms x.pos x.state x.promise (leads_in g x.pos x.state [] (asked x s.0) Refuse) (refused_by (lost_in g) ms x.promise n (resumed g x.pos x.state)))
            (sym (asked_next x s.0 Refuse is.live s.1))
            (refused_to x.pos x.state x.promise (leads_in g x.pos x.state [] (asked x s.0) Refuse) is.live (λ c l. moved_live x.pos x.state x.promise Refuse (asked x s.0) c is.live s.1 refl refl l));
      }

  pub try_from : (r : TryRow) → IsTryRow g ms r → (x : SeamKey) × IsSeamKey g kind.Asked x × (r ≡ try_row g (lost_in g) ms x)
  try_from r h =
      let x : SeamKey = record { seam = r.seam.0; part = r.stage; state = h.state; promise = h.promise; pos = h.pos } in (
        x,
        record { live = h.live; at = ap (part_there kind.Asked) h.asked },
        same_try r.seam r.stage r.mem (mem ms h.state h.promise) r.granted (mem_after ms h.promise (next_at g h.pos h.state Grant)) r.refused
            (refused_by (lost_in g) ms h.promise (next_at g h.pos h.state Refuse) (resumed g h.pos h.state))
            (mem_is r.mem h.state h.promise h.meant)
            (after_from h.promise (leads_in g h.pos h.state [] (asked x h.prim) Grant) r.granted h.granted ∙ ap (mem_after ms h.promise) (sym (asked_next x h.prim Grant h.live h.asked)))
            (refused_from h.pos h.state h.promise (leads_in g h.pos h.state [] (asked x h.prim) Refuse) r.refused h.live h.refused
            ∙ ap (λ n. refused_by (lost_in g) ms h.promise n (resumed g h.pos h.state)) (sym (asked_next x h.prim Refuse h.live h.asked))),
      )

  -- after labels, opens and closes
  moved_is : (x : SeamKey) (by : Move) (o : Option Spot) (c : Config) → IsLive g x.pos x.state x.promise → slice_get g.spots x.pos ≡ o → is_call_in o ≡ false → is_exit_in o ≡ false
      → leads_in g x.pos x.state [] o by ≡ Some c → moved g ms x by ≡ mem ms c.state x.promise
  moved_is x by o c live es k e l = ap (λ n. mem ms (state_or x.state n) x.promise) (next_is x.pos x.state x.promise by o live es k e ∙ ap (option_map pair_of) l)

  moved_means : (x : SeamKey) (by : Move) (o : Option Spot) (c : Config) → IsLive g x.pos x.state x.promise → slice_get g.spots x.pos ≡ o → weavers_in o ≡ false → is_call_in o ≡ false
      → is_exit_in o ≡ false
      → leads_in g x.pos x.state [] o by ≡ Some c → Means ms (moved g ms x by).0 c.state x.promise
  moved_means x by o c live es w k e l =
      subst (λ (m : MemId). Means ms m.0 c.state x.promise) (sym (moved_is x by o c live es k e l)) (meant c.pos c.state x.promise (moved_live x.pos x.state x.promise by o c live es w k l))

  pub label_to : (x : SeamKey) → IsSeamKey g kind.Label x → IsLabelRow g ms (at_row g ms x)
  label_to x is =
      let s = label_there (slice_get g.spots x.pos) x.seam x.part is.at in
      record {
        pos = x.pos;
        state = x.state;
        promise = x.promise;
        label = s.0;
        next = s.1;
        live = is.live;
        spot = s.2;
        meant = meant x.pos x.state x.promise is.live;
        after = moved_means x On (Some (Label x.seam s.0 s.1)) (at_pair s.1 (g.states.lettered x.state s.0) []) is.live s.2 refl refl refl refl;
      }

  pub label_from : (r : AtRow) → IsLabelRow g ms r → (x : SeamKey) × IsSeamKey g kind.Label x × (r ≡ at_row g ms x)
  label_from r h =
      let x : SeamKey = record { seam = r.seam.0; part = 0; state = h.state; promise = h.promise; pos = h.pos } in (
        x,
        record { live = h.live; at = ap (part_there kind.Label) h.spot },
        same_at r.seam r.mem (mem ms h.state h.promise) r.after (moved g ms x On) (mem_is r.mem h.state h.promise h.meant)
            (mem_is r.after (g.states.lettered h.state h.label) h.promise h.after
            ∙ sym (moved_is x On (Some (Label r.seam.0 h.label h.next)) (at_pair h.next (g.states.lettered h.state h.label) []) h.live h.spot refl refl refl)),
      )

  pub close_to : (x : SeamKey) → IsSeamKey g kind.Close x → IsCloseRow g ms (at_row g ms x)
  close_to x is =
      let s = close_there (slice_get g.spots x.pos) x.seam x.part is.at in
      record {
        pos = x.pos;
        state = x.state;
        promise = x.promise;
        descriptor = s.0;
        next = s.1;
        live = is.live;
        spot = s.2;
        meant = meant x.pos x.state x.promise is.live;
        after = moved_means x On (Some (Close x.seam s.0 s.1)) (at_pair s.1 (g.states.closed x.state s.0) []) is.live s.2 refl refl refl refl;
      }

  pub close_from : (r : AtRow) → IsCloseRow g ms r → (x : SeamKey) × IsSeamKey g kind.Close x × (r ≡ at_row g ms x)
  close_from r h =
      let x : SeamKey = record { seam = r.seam.0; part = 0; state = h.state; promise = h.promise; pos = h.pos } in (
        x,
        record { live = h.live; at = ap (part_there kind.Close) h.spot },
        same_at r.seam r.mem (mem ms h.state h.promise) r.after (moved g ms x On) (mem_is r.mem h.state h.promise h.meant)
            (mem_is r.after (g.states.closed h.state h.descriptor) h.promise h.after
            ∙ sym (moved_is x On (Some (Close r.seam.0 h.descriptor h.next)) (at_pair h.next (g.states.closed h.state h.descriptor) []) h.live h.spot refl refl refl)),
      )

  pub open_to : (x : SeamKey) → IsSeamKey g kind.Open x → IsOpenRow g ms (open_row g ms x)
  open_to x is =
      let s = open_there (slice_get g.spots x.pos) x.seam x.part is.at in
      record {
        pos = x.pos;
        state = x.state;
        promise = x.promise;
        descriptor = s.0;
        next = s.1;
        live = is.live;
        spot = s.2;
        meant = meant x.pos x.state x.promise is.live;
        opened = moved_means x Opened (Some (Open x.seam s.0 s.1)) (at_pair s.1 (g.states.opened x.state s.0) []) is.live s.2 refl refl refl refl;
        failed = moved_means x Failed (Some (Open x.seam s.0 s.1)) (at_pair s.1 (g.states.closed x.state s.0) []) is.live s.2 refl refl refl refl;
      }

  pub open_from : (r : OpenRow) → IsOpenRow g ms r → (x : SeamKey) × IsSeamKey g kind.Open x × (r ≡ open_row g ms x)
  open_from r h =
      let x : SeamKey = record { seam = r.seam.0; part = 0; state = h.state; promise = h.promise; pos = h.pos } in
      let o : Option Spot = Some (Open r.seam.0 h.descriptor h.next) in (
        x,
        record { live = h.live; at = ap (part_there kind.Open) h.spot },
        same_open r.seam r.mem (mem ms h.state h.promise) r.opened (moved g ms x Opened) r.failed (moved g ms x Failed) (mem_is r.mem h.state h.promise h.meant)
            (mem_is r.opened (g.states.opened h.state h.descriptor) h.promise h.opened
            ∙ sym (moved_is x Opened (Some (Open r.seam.0 h.descriptor h.next)) (at_pair h.next (g.states.opened h.state h.descriptor) []) h.live h.spot refl refl refl))
            (mem_is r.failed (g.states.closed h.state h.descriptor) h.promise h.failed
            ∙ sym (moved_is x Failed (Some (Open r.seam.0 h.descriptor h.next)) (at_pair h.next (g.states.closed h.state h.descriptor) []) h.live h.spot refl refl refl)),
      )

  -- calls
  called_to : (x : SeamKey) (is : IsSeamKey g kind.Call x) → IsCalled g ms x.seam (is_split x) (number ms x.state x.promise)
  called_to x is =
      let s = call_there (slice_get g.spots x.pos) x.seam x.part is.at in
      record {
        pos = x.pos;
        state = x.state;
        promise = x.promise;
        call = s.0;
        set = set_in g x.pos x.state x.promise;
        live = is.live;
        is_call = s.1;
        seams = s.2;
        modes = sym (ap (λ (n : ℕ). nat_eq n 1) s.3 ∙ split_is s.0.split);
        meant = meant x.pos x.state x.promise is.live;
        full = set_full g functions can low x.pos x.state x.promise s.0 is.live s.1;
      }

  pub into_to : (x : SeamKey) → IsSeamKey g kind.Call x → IsIntoRow g ms (into_row (set_in g) ms x)
  unfolding called_to
  into_to x is =
      let c = called_to x is in
      record { called = c; callee = meant (g.entry c.call.function) x.state c.set (calls x.pos x.state x.promise c.set c.call is.live c.is_call c.full) }

  -- the key of a call of a row
  abbrev seam_key_at : (seam m : ℕ) (split : Bool) → IsCalled g ms seam split m → SeamKey
  seam_key_at seam m split c = record { seam = seam; part = cond c.call.split 1 0; state = c.state; promise = c.promise; pos = c.pos }

  called_seam_key : (seam m : ℕ) (split : Bool) (c : IsCalled g ms seam split m) → IsSeamKey g kind.Call (seam_key_at seam m split c)
  called_seam_key seam m split c = record {
    live = c.live;
    at = there_call (slice_get g.spots c.pos) c.call c.is_call ∙ ap (λ (j : ℕ). Some (j, cond c.call.split 1 0)) c.seams;
  }

  called_set : (seam m : ℕ) (split : Bool) (c : IsCalled g ms seam split m) → c.set ≡ set_in g c.pos c.state c.promise
  called_set seam m split c = full_is g c.call c.state c.promise c.set (set_in g c.pos c.state c.promise) c.full (set_full g functions can low c.pos c.state c.promise c.call c.live c.is_call)

  called_split : (seam m : ℕ) (split : Bool) (c : IsCalled g ms seam split m) → split ≡ nat_eq (cond c.call.split 1 0) 1
  called_split seam m split c = sym (split_is c.call.split ∙ c.modes)

  pub into_from : (r : IntoRow) → IsIntoRow g ms r → (x : SeamKey) × IsSeamKey g kind.Call x × (r ≡ into_row (set_in g) ms x)
  into_from r h =
      let c = h.called in (
        seam_key_at r.seam.0 r.mem.0 r.split c,
        called_seam_key r.seam.0 r.mem.0 r.split c,
        same_into r.seam r.split (nat_eq (cond c.call.split 1 0) 1) r.mem (mem ms c.state c.promise) r.callee (mem ms c.state (set_in g c.pos c.state c.promise))
            (called_split r.seam.0 r.mem.0 r.split c) (mem_is r.mem c.state c.promise c.meant)
            (mem_is r.callee c.state c.set h.callee ∙ ap (mem ms c.state) (called_set r.seam.0 r.mem.0 r.split c)),
      )

  -- returns
  pub back_to : (xb : SeamKey × Key) → IsReturn g xb → IsBackRow g ms (back_row g ms xb)
  unfolding called_to
  back_to xb is =
      let x = xb.0 in
      let c = called_to x is.seam_key in
      let same : is.call ≡ c.call = same_Some is.call c.call (sym is.is_call ∙ c.is_call) in
      let ended : IsLive g (g.exit c.call.function) xb.1.state c.set =
      subst (λ (f : Called). IsLive g (g.exit f.function) xb.1.state c.set) same
      (subst (λ (p : ℕ). IsLive g p xb.1.state c.set) is.pos (subst (IsLive g xb.1.pos xb.1.state) is.promise is.ended)) in
      record {
        called = c;
        ended = ended;
        after = subst (λ (s : Bool). Means ms (number ms (returned g.states (kept_at (is_split x) x.state) xb.1.state) x.promise) (returned g.states (kept_at s x.state) xb.1.state)
            x.promise) (sym c.modes)
            (meant c.call.back (returned g.states (kept_at (is_split x) x.state) xb.1.state) x.promise
            (subst (λ (s : Bool). IsLive g c.call.back (returned g.states (kept_at s x.state) xb.1.state) x.promise) c.modes
            (returns x.pos x.state x.promise c.set xb.1.state c.call is.seam_key.live c.is_call c.full ended)));
      }

  pub back_from : (r : BackRow) → IsBackRow g ms r → (xb : SeamKey × Key) × IsReturn g xb × (r ≡ back_row g ms xb)
  back_from r h =
      let c = h.called in
      let x = seam_key_at r.seam.0 r.mem.0 r.split c in
      let set = set_in g c.pos c.state c.promise in
      let same = called_set r.seam.0 r.mem.0 r.split c in
      let split = called_split r.seam.0 r.mem.0 r.split c in (
        (x, key (g.exit c.call.function) r.exit.0 set),
        record {
          seam_key = called_seam_key r.seam.0 r.mem.0 r.split c;
          call = c.call;
          is_call = c.is_call;
          pos = refl;
          promise = refl;
          ended = subst (IsLive g (g.exit c.call.function) r.exit.0) same h.ended;
        },
        same_back r.seam r.split (nat_eq (cond c.call.split 1 0) 1) r.mem (mem ms c.state c.promise) r.exit r.after
            (mem ms (returned g.states (kept_at (nat_eq (cond c.call.split 1 0) 1) c.state) r.exit.0) c.promise)
            split (mem_is r.mem c.state c.promise c.meant)
            (mem_is r.after (returned g.states (kept_at c.call.split c.state) r.exit.0) c.promise h.after
            ∙ ap (λ (s : Bool). mem ms (returned g.states (kept_at s c.state) r.exit.0) c.promise) (sym (split_is c.call.split))),
      )

  -- live rows
  pub live_to : (k : Key) → IsLive g k.pos k.state k.promise → IsLiveRow g ms (live_row ms k)
  live_to k live = record { state = k.state; promise = k.promise; live = live; meant = meant k.pos k.state k.promise live }

  pub live_from : (r : PosId × MemId) → IsLiveRow g ms r → (k : Key) × IsLive g k.pos k.state k.promise × (r ≡ live_row ms k)
  live_from r h = (key r.0.0 h.state h.promise, h.live, ap (λ (m : MemId). (r.0, m)) (mem_is r.1 h.state h.promise h.meant))
