-- The numbers of the lazy table are in range; so it meets the nine conditions.
use Rattle.std.proofs.Common.{◌≡◌, ℕ, ◌+◌, ◌^◌, ◌<◌, List, ◌∷◌, ◌++◌, Bool, true, false, Option, Some, None, nat_eq, length, refl, sym, ap, ◌∙◌, subst, arith, eq-eqb}
use Rattle.std.specs.Prelude.{slice_get}
use Rattle.std.specs.List.{list_any, enumerate_from}
use Rattle.std.proofs.lemmas.Bool.{lt-ltb}
use Rattle.std.proofs.lemmas.Option.{none-some, same_Some, slice_get_within}
use Rattle.std.proofs.Math.Pow.{pow-sub-lt}
use Rattle.cw_core.specs.StateSet.{has as has_member}
use Rattle.cw_core.proofs.Sets.{IsBelow-lt}
use Rattle.cw_core.specs.declared.ids.StateId.{StateId}
use Rattle.cw_core.specs.declared.ids.MemId.{MemId}
use Rattle.cw_core.specs.declared.ids.PosId.{PosId}
use Rattle.cw_certs.specs.declared.rows.TryRow.{TryRow}
use Rattle.cw_certs.specs.declared.rows.AtRow.{AtRow}
use Rattle.cw_certs.specs.declared.rows.OpenRow.{OpenRow}
use Rattle.cw_certs.specs.declared.rows.IntoRow.{IntoRow}
use Rattle.cw_certs.specs.declared.rows.BackRow.{BackRow}
use Rattle.cw_certs.specs.Tables.{Table}
use Rattle.cw_game.specs.declared.spots.Spot.{Spot}
use Rattle.cw_game.specs.declared.spots.Spot.TheVariants.{Visit, Asked, Label, Open, Close}
use Rattle.cw_game.specs.Games.{Game, Config, resumed, returned, IsLost}
use Rattle.cw_game.specs.Pairs.{has, all_states, Called, call_spot, kept_at}
use Rattle.cw_game.specs.Conditions.{first_failing, is_state, is_set, is_position, is_memory, is_memory_if, has_seam, has_stage, is_seam, is_stage, is_header, is_mem_row}
use Rattle.cw_game.specs.Conditions.{is_live_row, is_try_row, is_at_row, is_open_row, is_into_row, is_back_row, begins, fault_at, in_range, ranges, live_rows, InMems, InLive}
use Rattle.cw_game.specs.Conditions.{InTries, InAts, InOpened, InClosed, InInto, InBack, TableFault, IsGoodTable}
use Rattle.cw_game.proofs.Failing.{none_more, none_append}
use Rattle.std.proofs.lemmas.Bool.{and_from as both}
use Rattle.cw_solve.specs.Contexts.{context}
use Rattle.cw_product.specs.Routed.{IsState, AreRouted}
use Rattle.cw_solve.proofs.Falls.{call_is}
use Rattle.cw_solve.proofs.Tabling.{there}
use Rattle.cw_lazy_table.specs.Live.{IsFull, IsLive, begins as begins_at, skips, tries, moves, goes_on, calls, returns}
use Rattle.cw_lazy_table.specs.Lazy.{state_id, Means, IsAfter, GoesOn, IsRefused, IsMemory, IsLiveRow, IsTryRow, IsLabelRow, IsOpenRow, IsCloseRow, IsCalled, IsIntoRow, IsBackRow, IsLazyTable}
use Rattle.cw_lazy_table.specs.Staged.{AreStaged, IsKnown}
use Rattle.cw_lazy_table.proofs.Finding.{of_in}
use Rattle.cw_lazy_table.proofs.Keeping.{safe, came}
use Rattle.cw_lazy_table.proofs.Meeting.{leads_to}
use Rattle.cw_lazy_table.proofs.Rows.{none_in_range, rows_good}
use Rattle.std.proofs.lemmas.Map.Keys.{any_passes_from_place as any_of}

module _ (g : Game) (functions : ℕ) (routed : AreRouted g functions) (staged : AreStaged g) (first : IsState g g.states.start)
    (start : IsLost g (g.entry g.main) g.states.start (has (all_states g)) → ⊥)
    (known : IsKnown g) (t : Table) (lazy : IsLazyTable g t) where
  -- a promise has states alone
  full_below : (call : Called) (q e set : ℕ) → IsFull g call q e set → set < 2 ^ g.states.count
  unfolding has_member
  full_below call q e set f = IsBelow-lt g.states.count set (λ x h. f.states x h)

  promise_below : (p q e : ℕ) → IsLive g p q e → e < 2 ^ g.states.count
  promise_below p q e begins_at = pow-sub-lt g.states.count (omega arith)
  promise_below r x y (skips p q e j i a live es n) = promise_below p q e live
  promise_below r x y (tries p q e j i a live es l) = promise_below p q e live
  promise_below r x y (moves p q e by next live w k l) = promise_below p q e live
  promise_below r x y (goes_on p q e pair live is n) = promise_below p q e live
  promise_below r x y (calls p q e set call live es f) = full_below call q e set f
  promise_below r x y (returns p q e set z call live es f ended) = promise_below p q e live

  state_in : (p q e : ℕ) → IsLive g p q e → is_state g q ≡ true
  state_in p q e live = lt-ltb q g.states.count (safe g functions routed staged first start p q e live).state

  position_in : (p q e : ℕ) → IsLive g p q e → is_position g p ≡ true
  position_in p q e live =
      let h = safe g functions routed staged first start p q e live in
      let s = there g functions routed (context h.function e) h.needed in
      lt-ltb p (length g.spots) (omega (arith, h.of.1, s.ends))

  memory_in : (m : MemId) (q e : ℕ) → Means t.mems m.0 q e → is_memory t m ≡ true
  memory_in m q e h = lt-ltb m.0 (length t.mems) (slice_get_within t.mems m.0 (state_id q, e) h)

  after_in : (e : ℕ) (o : Option Config) (m : Option MemId) → IsAfter t.mems e o m → is_memory_if t m ≡ true
  after_in e o None h = refl
  after_in e None (Some m) h = absurd (none-some m (sym h))
  after_in e (Some c) (Some m) h = memory_in m c.state e h

  going_in : (e : ℕ) (o : Option (ℕ × ℕ)) (m : Option MemId) → GoesOn g t.mems e o m → is_memory_if t m ≡ true
  going_in e o None h = refl
  going_in e None (Some m) h = absurd (none-some m (sym h))
  going_in e (Some pair) (Some m) h = memory_in m pair.1 e h.1

  refused_in : (p q e : ℕ) (o : Option Config) (m : Option MemId) → IsRefused g t.mems p q e o m → is_memory_if t m ≡ true
  refused_in p q e None m h = going_in e (resumed g p q) m h
  refused_in p q e (Some c) m h = after_in e (Some c) m h

  seam_in : (j p : ℕ) (s : Spot) → slice_get g.spots p ≡ Some s → has_seam j s ≡ true → list_any (has_seam j) g.spots ≡ true
  seam_in j p s es h = any_of (has_seam j) g.spots p s es h

  call_seam : (split : Bool) (j f n : ℕ) → has_seam j (call_spot split j f n) ≡ true
  call_seam true j f n = eq-eqb j j refl
  call_seam false j f n = eq-eqb j j refl

  called_in : (seam : ℕ) (split : Bool) (m : ℕ) (c : IsCalled g t.mems seam split m) → list_any (has_seam seam) g.spots ≡ true
  called_in seam split m c =
      subst (λ j. list_any (has_seam j) g.spots ≡ true) c.seams
      (seam_in c.call.seam c.pos (call_spot c.call.split c.call.seam c.call.function c.call.back) (call_is (slice_get g.spots c.pos) c.call c.is_call)
      (call_seam c.call.split c.call.seam c.call.function c.call.back))

  mem_good : (r : StateId × ℕ) → IsMemory g r → is_mem_row g r ≡ true
  mem_good r h = both (is_state g r.0.0) (is_set g r.1) (state_in h.pos r.0.0 r.1 h.live) (lt-ltb r.1 (2 ^ g.states.count) (promise_below h.pos r.0.0 r.1 h.live))

  live_good : (r : PosId × MemId) → IsLiveRow g t.mems r → is_live_row g t r ≡ true
  live_good r h = both (is_position g r.0.0) (is_memory t r.1) (position_in r.0.0 h.state h.promise h.live) (memory_in r.1 h.state h.promise h.meant)

  try_good : (r : TryRow) → IsTryRow g t.mems r → is_try_row g t r ≡ true
  try_good r h =
      let c = came g functions routed staged first start h.pos h.state h.promise h.live (r.seam.0, r.stage, h.prim, h.asked) in
      let asked : slice_get g.spots (c.0 + 1) ≡ Some (Asked c.1 c.2 c.3) = staged.behind c.0 c.1 c.2 c.3 c.5 in
      let same : Asked c.1 c.2 c.3 ≡ Asked r.seam.0 r.stage h.prim = same_Some (Asked c.1 c.2 c.3) (Asked r.seam.0 r.stage h.prim) (sym asked ∙ ap (slice_get g.spots) (sym c.4) ∙ h.asked) in
      let ej : c.1 ≡ r.seam.0 = ap seam_of same in
      let ei : c.2 ≡ r.stage = ap stage_of same in
      both (is_stage g r.seam r.stage) _
      (any_of (has_stage r.seam.0 r.stage) g.spots c.0 (Visit c.1 c.2 c.3) c.5 (both (nat_eq c.1 r.seam.0) (nat_eq c.2 r.stage) (eq-eqb c.1 r.seam.0 ej) (eq-eqb c.2 r.stage ei)))
      (both (is_memory t r.mem) _ (memory_in r.mem h.state h.promise h.meant)
      (both (is_memory_if t r.granted) (is_memory_if t r.refused) (after_in h.promise _ r.granted h.granted) (refused_in h.pos h.state h.promise _ r.refused h.refused)))
    where
      seam_of : Spot → ℕ
      seam_of (Asked j i a) = j
      seam_of _ = 0

      stage_of : Spot → ℕ
      stage_of (Asked j i a) = i
      stage_of _ = 0

  label_good : (r : AtRow) → IsLabelRow g t.mems r → is_at_row g t r ≡ true
  label_good r h =
      both (is_seam g r.seam) _ (seam_in r.seam.0 h.pos (Label r.seam.0 h.label h.next) h.spot (eq-eqb r.seam.0 r.seam.0 refl))
      (both (is_memory t r.mem) (is_memory t r.after) (memory_in r.mem h.state h.promise h.meant) (memory_in r.after (g.states.lettered h.state h.label) h.promise h.after))

  close_good : (r : AtRow) → IsCloseRow g t.mems r → is_at_row g t r ≡ true
  close_good r h =
      both (is_seam g r.seam) _ (seam_in r.seam.0 h.pos (Close r.seam.0 h.descriptor h.next) h.spot (eq-eqb r.seam.0 r.seam.0 refl))
      (both (is_memory t r.mem) (is_memory t r.after) (memory_in r.mem h.state h.promise h.meant) (memory_in r.after (g.states.closed h.state h.descriptor) h.promise h.after))

  open_good : (r : OpenRow) → IsOpenRow g t.mems r → is_open_row g t r ≡ true
  open_good r h =
      both (is_seam g r.seam) _ (seam_in r.seam.0 h.pos (Open r.seam.0 h.descriptor h.next) h.spot (eq-eqb r.seam.0 r.seam.0 refl))
      (both (is_memory t r.mem) _ (memory_in r.mem h.state h.promise h.meant)
      (both (is_memory t r.opened) (is_memory t r.failed) (memory_in r.opened (g.states.opened h.state h.descriptor) h.promise h.opened)
      (memory_in r.failed (g.states.closed h.state h.descriptor) h.promise h.failed)))

  into_good : (r : IntoRow) → IsIntoRow g t.mems r → is_into_row g t r ≡ true
  into_good r h =
      both (is_seam g r.seam) _ (called_in r.seam.0 r.split r.mem.0 h.called)
      (both (is_memory t r.mem) (is_memory t r.callee) (memory_in r.mem h.called.state h.called.promise h.called.meant) (memory_in r.callee h.called.state h.called.set h.callee))

  back_good : (r : BackRow) → IsBackRow g t.mems r → is_back_row g t r ≡ true
  back_good r h =
      both (is_seam g r.seam) _ (called_in r.seam.0 r.split r.mem.0 h.called)
      (both (is_memory t r.mem) _ (memory_in r.mem h.called.state h.called.promise h.called.meant)
      (both (is_state g r.exit.0) (is_memory t r.after) (state_in (g.exit h.called.call.function) r.exit.0 h.called.set h.ended)
      (memory_in r.after (returned g.states (kept_at h.called.call.split h.called.state) r.exit.0) h.called.promise h.after)))

  -- the ranges, as far as a list
  abbrev to_live : List (TableFault × Bool)
  to_live = in_range InMems (is_mem_row g) t.mems ++ in_range InLive (is_live_row g t) t.live

  abbrev to_tries : List (TableFault × Bool)
  to_tries = to_live ++ in_range InTries (is_try_row g t) t.tries

  abbrev to_ats : List (TableFault × Bool)
  to_ats = to_tries ++ in_range InAts (is_at_row g t) t.ats

  abbrev to_opened : List (TableFault × Bool)
  to_opened = to_ats ++ in_range InOpened (is_open_row g t) t.opened

  abbrev to_closed : List (TableFault × Bool)
  to_closed = to_opened ++ in_range InClosed (is_at_row g t) t.closed

  abbrev to_into : List (TableFault × Bool)
  to_into = to_closed ++ in_range InInto (is_into_row g t) t.into

  ranges_good : first_failing (ranges g t) ≡ None
  ranges_good =
      none_append to_into (in_range InBack (is_back_row g t) t.back)
      (none_append to_closed (in_range InInto (is_into_row g t) t.into)
      (none_append to_opened (in_range InClosed (is_at_row g t) t.closed)
      (none_append to_ats (in_range InOpened (is_open_row g t) t.opened)
      (none_append to_tries (in_range InAts (is_at_row g t) t.ats)
      (none_append to_live (in_range InTries (is_try_row g t) t.tries)
      (none_append (in_range InMems (is_mem_row g) t.mems) (in_range InLive (is_live_row g t) t.live)
      (none_in_range InMems (is_mem_row g) 0 t.mems (λ r n. mem_good r ((lazy.mems.1 r).0 (of_in t.mems r n))))
      (none_in_range InLive (is_live_row g t) 0 t.live (λ r n. live_good r ((lazy.live.1 r).0 (of_in t.live r n)))))
      (none_in_range InTries (is_try_row g t) 0 t.tries (λ r n. try_good r ((lazy.tries.1 r).0 (of_in t.tries r n)))))
      (none_in_range InAts (is_at_row g t) 0 t.ats (λ r n. label_good r ((lazy.ats.1 r).0 (of_in t.ats r n)))))
      (none_in_range InOpened (is_open_row g t) 0 t.opened (λ r n. open_good r ((lazy.opened.1 r).0 (of_in t.opened r n)))))
      (none_in_range InClosed (is_at_row g t) 0 t.closed (λ r n. close_good r ((lazy.closed.1 r).0 (of_in t.closed r n)))))
      (none_in_range InInto (is_into_row g t) 0 t.into (λ r n. into_good r ((lazy.into.1 r).0 (of_in t.into r n)))))
      (none_in_range InBack (is_back_row g t) 0 t.back (λ r n. back_good r ((lazy.back.1 r).0 (of_in t.back r n))))

  -- The lazy table meets the nine conditions.
  pub lazy_good : IsGoodTable g t
  lazy_good =
      none_more (is_header g t) _ (fault_at InMems 0 1)
      (both (nat_eq t.states g.states.count) (is_memory t t.start) (eq-eqb t.states g.states.count lazy.states) (memory_in t.start g.states.start (all_states g) lazy.start))
      (none_append (ranges g t) ((fault_at InLive 0 2, begins g t) ∷ live_rows g t (enumerate_from 0 t.live)) ranges_good
      (none_more (begins g t) _ (fault_at InLive 0 2)
      (leads_to g functions routed staged first start known t lazy (g.entry g.main) t.start.0 g.states.start (all_states g) lazy.start begins_at)
      (rows_good g functions routed staged first start known t lazy 0 t.live (λ r n. (lazy.live.1 r).0 (of_in t.live r n)))))
